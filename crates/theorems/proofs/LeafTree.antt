-- A leaf's events: its Enter, an Inline for each line, its Exit; and an Atom. Assumes nothing.
use mathlib.Core.Path.{◌≡◌, refl, sym, ◌∙◌}
use mathlib.Core.Bool.{Bool, true, false}
use mathlib.Core.List.{List, [], ◌∷◌, ◌++◌, append_assoc, append-nil}
use Prim.Native.Nat.{ℕ, ◌-◌, ◌≤◌}
use native.Mathlib.Omega.{arith}
use lib.Dec.{eqb, ltb}
use lib.ListN.{length}
use borrow.Author.Tests.{ltb-true}
use Rattle.classes.specs.Choice.{either}
use Rattle.lines.specs.Lines.{Span, span}
use Rattle.trim.specs.Trim.{is_gap}
use Rattle.kinds.specs.Bytes.{same}
use Rattle.kinds.specs.declared.Kind.{Kind}
use Rattle.measure.specs.Continue.{kind_num}
use Rattle.events.specs.State.{State, go}
use Rattle.events.specs.Events.{push_of, enter_event, enter_of, exit_of}
use Rattle.events.specs.declared.Event.{Event}
use Rattle.events.specs.declared.Node.{Node}
use Rattle.walk.specs.Fields.{indent_of}
use Rattle.walk.specs.Leaf.{mark, inline_of, trim_front, past_marks, trim_marks, plain_line, code_line, leaf_line, line_event, inlines_of, pair_node, leaf_node}
use Rattle.walk.specs.declared.Met.{Met}
use Rattle.theorems.proofs.LevelSteps.{passed, chosen, same-inlines}
use Rattle.theorems.proofs.Proper.{of-pick}
use Rattle.theorems.proofs.Nests.{Whole, Roles, Fine, Fines, Frame, Holds}
use Rattle.theorems.proofs.WholeLaws.{whole-more, whole-leaf, roles-append, whole-roles, whole_pair, closing, closing_same, fines-append}
use Rattle.theorems.proofs.HoldLaws.{holds-push, holds_as}
use Rattle.theorems.proofs.Trees.{Tree, Inside}
use Rattle.theorems.proofs.FineNodes.{by_number, atom-fine}
use Rattle.theorems.proofs.TreeSteps.{tree-more, enter-tree, enter-besides, exit-besides, exit-tree}
use Rattle.theorems.proofs.TableFine.{Within, front-in, front-within, back-within, inline-fine}

-- ---- lines stay in the text
module _ (text : List ℕ) where
  abbrev In : Span → Type 0
  In = Within (length text)

  in-plain : (last : Bool) (l : Span) → In l → In (plain_line text last l)
  in-plain last l h = let f = front-within text (length text) l h in of-pick In last _ _ (λ e. back-within text (length text) (trim_front text l) f) (λ e. f)

  in-marks : (l : Span) → In l → In (trim_marks text l)
  unfolding trim_marks
  in-marks l h =
      let n = length text in
      let f = front-within text n l h in
      let a = past_marks text l in
      of-pick In (eqb (trim_front text (span a l.end)).start a) l _ (λ e. h) (λ e. front-within text n (span a l.end) (front-in text (same 35) (trim_front text l) f.0, h.1))

  in_code : (n : ℕ) (l : Span) → In l → In (code_line text n l)
  in_code n l h = (omega (arith, front-in text is_gap l h.0), h.1)

  in_leaf : (k : Kind) (first last : Bool) (l : Span) → In l → In (leaf_line text k first last l)
  unfolding leaf_line
  in_leaf k first last l h =
      of-pick In (eqb (kind_num k) 6) _ _ (λ e. in_code (indent_of k) l h)
      (λ e. of-pick In (eqb (kind_num k) 5) _ _ (λ e. in-plain last _ (of-pick In first l (trim_marks text l) (λ e. h) (λ e. in-marks l h)))
      (λ e. in-plain (either (eqb (kind_num k) 7) last) l h))

-- ---- Inlines
-- behind g there are Inlines
pub record Lined (text : List ℕ) (fs : List Frame) (g : List Event) (r : State) : Type 0 where
  pub lines : List Event
  pub holds : Holds fs (g ++ lines) r
  pub roles : Roles 3 lines
  pub fines : Fines text lines

lined-none : (text : List ℕ) (fs : List Frame) (g : List Event) (s : State) → Holds fs g s → Lined text fs g s
lined-none text fs g s h = record { lines = []; holds = holds_as fs g (g ++ []) s (sym (append-nil g)) h; roles = tt; fines = tt }

lined_on : (text : List ℕ) (fs : List Frame) (g : List Event) (a r : State) → (p : Lined text fs g a) → Lined text fs (g ++ p.lines) r → Lined text fs g r
lined_on text fs g a r p q = record {
  lines = p.lines ++ q.lines;
  holds = holds_as fs ((g ++ p.lines) ++ q.lines) (g ++ (p.lines ++ q.lines)) r (append_assoc g p.lines q.lines) q.holds;
  roles = roles-append 3 p.lines q.lines p.roles q.roles;
  fines = fines-append text p.lines q.lines p.fines q.fines;
}

line-lined : (text : List ℕ) (x : Span) (fs : List Frame) (g : List Event) (s : State) → x.end ≤ length text → Holds fs g s
    → (line_event x s).number ≡ 0 → Lined text fs g (line_event x s)
unfolding line_event inline_of
line-lined text x fs g s k h =
    let e = mark 3 0 x.start x.end 0 in
    chosen (ltb x.start x.end) (push_of e s) s (Lined text fs g)
    (λ l z. record {
      lines = e ∷ [];
      holds = holds-push e fs g s h z;
      roles = (refl, tt);
      fines = (inline-fine text x.start x.end (omega (arith, ltb-true x.start x.end l)) k, tt);
    })
    (λ l z. lined-none text fs g s h)

pub inlines-lined : (text : List ℕ) (k : Kind) (first : Bool) (ls : List Span) (fs : List Frame) (g : List Event) (s : State) → Inside text ls → Holds fs g s
    → (inlines_of text k first ls s).number ≡ 0 → Lined text fs g (inlines_of text k first ls s)
unfolding inlines_of
inlines-lined text k first [] fs g s i h z = lined-none text fs g s h
inlines-lined text k first (l ∷ ls) fs g s i h z =
    let x = leaf_line text k first (eqb (length ls) 0) l in
    passed (line_event x s) (inlines_of text k false ls) (Lined text fs g) (λ za zb.
    let p = line-lined text x fs g s (in_leaf text k first (eqb (length ls) 0) l (i.0, i.1)).1 h za in
    lined_on text fs g (line_event x s) _ p (inlines-lined text k false ls fs (g ++ p.lines) _ i.2 p.holds zb)) z

-- ---- a leaf
pub record Leafed (text : List ℕ) (fs : List Frame) (g : List Event) (n : Node) (s r : State) : Type 0 where
  pub lines : List Event
  pub from : ℕ
  pub to : ℕ
  pub tree : Tree text fs (g ++ (enter_event n ∷ (lines ++ (closing (enter_event n) from to ∷ [])))) r
  pub inlines : Roles 3 lines
  pub whole : Whole 1 (enter_event n ∷ (lines ++ (closing (enter_event n) from to ∷ [])))
  pub lst : r.lst ≡ s.lst

-- no Document
leaf-node : (m : Met) (line : ℕ) (top : Bool) → (leaf_node m line top).node ≡ 1 → ⊥
unfolding leaf_node
leaf-node m line top =
    by_number (λ x. x.node ≡ 1 → ⊥) (kind_num m.kind) 5 7 6 _ (pair_node m line 20) (pair_node m line 21) _ (λ k e. omega (arith, e)) (λ e. omega (arith, e)) (λ e. omega (arith, e))
    (λ e. omega (arith, e))

-- the Exit of an Enter behind g, with Inlines between
leaf-exit : (text : List ℕ) (n : Node) (i j : ℕ) (fs : List Frame) (g : List Event) (s a : State)
    → Tree text ((record { before = g; enter = enter_event n }) ∷ fs) [] a → 1 ≤ length fs → length fs ≤ 98 → (n.node ≡ 1 → ⊥) → i ≤ j → j ≤ length text → (b : State) → b.lst ≡ s.lst
    → Lined text ((record { before = g; enter = enter_event n }) ∷ fs) [] b → (exit_of i j b).number ≡ 0 → Leafed text fs g n s (exit_of i j b)
leaf-exit text n i j fs g s a t q d o h k b e p z =
    let u = enter_event n in
    let x = closing u i j in
    let c : Frame = record { before = g; enter = u } in
    let v = whole-roles 3 p.lines (omega arith) p.roles in
    record {
      lines = p.lines;
      from = i;
      to = j;
      tree = exit-tree text i j c fs p.lines b h k q d (tree-more text (c ∷ fs) [] p.lines a b t p.holds (whole-more 0 _ p.lines (omega arith) v) p.fines) z;
      inlines = p.roles;
      whole = whole_pair 0 u x p.lines refl o refl (closing_same u i j) v;
      lst = (exit-besides i j b z).0 ∙ e;
    }

pub leaf-tree : (text : List ℕ) (m : Met) (line : ℕ) (top : Bool) (ls : List Span) (fs : List Frame) (g : List Event) (s : State)
    → Tree text fs g s → 1 ≤ length fs → length fs ≤ 98 → Fine text (enter_event (leaf_node m line top)) → m.from ≤ m.to → m.to ≤ length text → Inside text ls
    → (go (enter_of (leaf_node m line top) s) (λ b. go (inlines_of text m.kind true ls b) (exit_of m.from m.to))).number ≡ 0
    → Leafed text fs g (leaf_node m line top) s (go (enter_of (leaf_node m line top) s) (λ b. go (inlines_of text m.kind true ls b) (exit_of m.from m.to)))
leaf-tree text m line top ls fs g s t o d f h k i =
    let x = leaf_node m line top in
    let c : Frame = record { before = g; enter = enter_event x } in
    let y = leaf-node m line top in
    passed (enter_of x s) _ (Leafed text fs g x s) (λ za.
    let u = enter-tree text fs g x s f y o t za in
    let e = (same-inlines text m.kind true ls (enter_of x s)).1 ∙ (enter-besides x s za).0 in
    passed (inlines_of text m.kind true ls (enter_of x s)) (exit_of m.from m.to) (Leafed text fs g x s) (λ zb.
    leaf-exit text x m.from m.to fs g s (enter_of x s) u o d y h k _ e (inlines-lined text m.kind true ls (c ∷ fs) [] (enter_of x s) i u.holds zb)))

-- ---- an Atom
pub atom-tree : (text : List ℕ) (k i j : ℕ) (fs : List Frame) (g : List Event) (s : State) → 1 ≤ k → k ≤ 3 → i ≤ j → j ≤ length text
    → Tree text fs g s → (push_of (mark 4 k i j 0) s).number ≡ 0 → Tree text fs (g ++ (mark 4 k i j 0 ∷ [])) (push_of (mark 4 k i j 0) s)
atom-tree text k i j fs g s h l o e t z =
    let x = mark 4 k i j 0 in
    let w = whole-more 0 (100 - length fs) (x ∷ []) (omega arith) (whole-leaf x (λ q. omega (arith, q)) (λ q. omega (arith, q))) in
    tree-more text fs g (x ∷ []) s (push_of x s) t (holds-push x fs g s t.holds z) w (atom-fine text k i j h l o e, tt)
