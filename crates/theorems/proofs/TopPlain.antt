-- A block that is no container begins one top-level block: an Atom, a table, or a leaf, a heading's section around it. Assumes nothing.
use mathlib.Core.Path.{◌≡◌, refl, sym, ap, subst, ◌∙◌}
use mathlib.Core.Logic.{◌⊎◌, inl}
use mathlib.Core.Bool.{Bool, true, false}
use mathlib.Core.List.{List, [], ◌∷◌, ◌++◌, append_assoc, append-nil}
use Prim.Native.Nat.{ℕ, ◌+◌, ◌≤◌}
use native.Mathlib.Omega.{arith}
use lib.Dec.{eqb}
use lib.ListN.{length}
use Rattle.classes.specs.Choice.{pick}
use Rattle.lines.specs.Lines.{Span}
use Rattle.measure.specs.Continue.{kind_num, level_of}
use Rattle.events.specs.State.{State, with_attr, with_at}
use Rattle.events.specs.Events.{push_of, enter_event}
use Rattle.events.specs.declared.Event.{Event}
use Rattle.events.specs.declared.Node.{Node}
use Rattle.walk.specs.Fields.{is_container}
use Rattle.walk.specs.Leaf.{mark, section_of, pair_node, leaf_node, leaf_of}
use Rattle.walk.specs.Table.{table_of}
use Rattle.walk.specs.Tree.{plain_of, attr_of}
use Rattle.walk.specs.declared.Met.{Met}
use Rattle.tops.specs.Tops.{is_around, line_start}
use Rattle.theorems.proofs.LevelSteps.{leaf_events, same-leaf, same-table}
use Rattle.theorems.proofs.Nests.{Frame, flat}
use Rattle.theorems.proofs.WholeLaws.{whole-roles, closing}
use Rattle.theorems.proofs.Trees.{Inside, Fit}
use Rattle.theorems.proofs.FineNodes.{by_number}
use Rattle.theorems.proofs.TreeSteps.{tree-beside}
use Rattle.theorems.proofs.SectionTree.{closings, Moved, Sectioned}
use Rattle.theorems.proofs.ListTree.{alike_refl}
use Rattle.theorems.proofs.TreeLevelLaws.{bare-on}
use Rattle.theorems.proofs.TreePlain.{leaf-ways, plain-ways, bare-more, plain_more, table-tabled, tabled-bare, leaf-leafed, leafed-bare, section-sectioned, sectioned-bare, atom-bare, atom-attributed}
use Rattle.theorems.proofs.Tops.{Shows, Arounds, TopBare}
use Rattle.theorems.proofs.TopLaws.{not-around, shows-block, shows-atom, shows-around, Quiet, quiet_none, quiet-more, shows-between}
use Rattle.theorems.proofs.TopLevelLaws.{bare-on-tops, bare-beside-tops}

-- ---- sections that end, and the one that begins
arounds-split : (us ds : List Frame) → Arounds (us ++ ds) → Arounds us × Arounds ds
arounds-split [] ds a = (tt, a)
arounds-split (u ∷ us) ds a = let p = arounds-split us ds a.1 in ((a.0, p.0), p.1)

closings-quiet : (text : List ℕ) (pos : ℕ) (us : List Frame) → Arounds us → Quiet text (closings pos us)
unfolding closings
closings-quiet text pos [] a = quiet_none text
closings-quiet text pos (u ∷ us) a = quiet-more text (closing u.enter pos pos) (closings pos us) (λ e. omega (arith, e)) a.0 (closings-quiet text pos us a.1)

moved-arounds : (fs : List Frame) (g : List Event) (ds : List Frame) (h : List Event) (v : Moved fs g ds h) → Arounds fs → Arounds v.inner × Arounds ds
moved-arounds fs g ds h v a = arounds-split v.inner ds (subst Arounds v.old a)

shows-moved : (text ss : List ℕ) (n : ℕ) (fs : List Frame) (g : List Event) (ds : List Frame) (h : List Event) → Moved fs g ds h → Arounds fs → Shows text ss n (flat fs ++ g)
    → Shows text ss n (flat ds ++ h)
shows-moved text ss n fs g ds h v a s =
    let e : flat fs ++ g ≡ (flat fs ++ v.front) ++ v.behind = ap (λ (l : List Event). flat fs ++ l) v.was ∙ sym (append_assoc (flat fs) v.front v.behind) in
    let q = closings-quiet text v.pos v.inner (moved-arounds fs g ds h v a).0 in
    let t = subst (λ (l : List Event). Shows text ss n l) e s in
    subst (λ (l : List Event). Shows text ss n l) (sym v.now) (shows-between text ss n (flat fs ++ v.front) (closings v.pos v.inner) v.behind q t)

shows-section : (text ss : List ℕ) (fs : List Frame) (g : List Event) (s r : State) (p : Sectioned text fs g s r) → Arounds fs → Shows text ss 0 (flat fs ++ g)
    → Arounds (p.frame ∷ p.frames) × Shows text ss 0 (flat (p.frame ∷ p.frames) ++ [])
unfolding flat is_around
shows-section text ss fs g s r p a q =
    let k : is_around p.frame.enter.node ≡ true = ap is_around p.node in
    let t = shows-moved text ss 0 fs g p.frames p.frame.before p.moved a q in
    let u = shows-around text ss 0 (flat p.frames ++ p.frame.before) p.frame.enter (λ e. omega (arith, e, p.role)) k t in
    let e : (flat p.frames ++ p.frame.before) ++ (p.frame.enter ∷ []) ≡ flat (p.frame ∷ p.frames) ++ [] =
    append_assoc (flat p.frames) p.frame.before (p.frame.enter ∷ []) ∙ sym (append-nil (flat (p.frame ∷ p.frames))) in
    ((k, (moved-arounds fs g p.frames p.frame.before p.moved a).1), subst (λ (l : List Event). Shows text ss 0 l) e u)

-- ---- a leaf's Enter
leaf-enter : (m : Met) (line : ℕ) (top : Bool) → (is_around (leaf_node m line top).node ≡ false) × ((leaf_node m line top).start ≡ m.start)
unfolding leaf_node
leaf-enter m line top =
    let far : (k : ℕ) → 15 ≤ k → is_around k ≡ false = λ k l. not-around k (λ e. omega (arith, l, e)) (λ e. omega (arith, l, e)) in
    by_number (λ (x : Node). (is_around x.node ≡ false) × (x.start ≡ m.start)) (kind_num m.kind) 5 7 6 _ (pair_node m line 20) (pair_node m line 21) _
    (λ e. (far 16 (omega arith), refl)) (far 20 (omega arith), refl) (far 21 (omega arith), refl) (far 15 (omega arith), refl)

-- ---- the kinds of blocks
module _ (text : List ℕ) (left : ℕ) (ss : List ℕ) (m : Met) (line : ℕ) (ls : List Span) (s : State) (few : left ≤ 32) (f : Fit text m line) (i : Inside text ls) (b : TopBare text ss left s) where
  abbrev one : List ℕ
  one = ss ++ (line_start text m.start ∷ [])

  -- behind what there is
  behind-as : (fs : List Frame) (g w : List Event) → Shows text one 0 ((flat fs ++ g) ++ w) → Shows text one 0 (flat fs ++ (g ++ w))
  behind-as fs g w = subst (λ (l : List Event). Shows text one 0 l) (append_assoc (flat fs) g w)

  none-tops : TopBare text ss left (with_attr 0 s)
  none-tops =
      let a = b.bare in
      let r = with_attr 0 s in
      let t = tree-beside text a.frames a.behind s r refl refl a.tree in
      bare-on-tops text ss left s r ss b a.frames a.behind (alike_refl a.frames) t refl refl a.led (λ e. inl refl) b.shows

  table-tops : (table_of text m ls s).number ≡ 0 → TopBare text one left (with_attr 0 (table_of text m ls s))
  unfolding tabled-bare plain_more bare-more bare-on
  table-tops z =
      let a = b.bare in
      let r = table_of text m ls s in
      let e = mark 1 12 m.start m.end 0 in
      let p = table-tabled text true [] [] left m line ls s (λ t. refl) (λ t. few) f i a z in
      let x = closing e p.from p.to in
      let n = not-around 12 (λ c. omega (arith, c)) (λ c. omega (arith, c)) in
      let q = shows-block text ss 3 (flat a.frames ++ a.behind) p.inner e x (omega arith) refl n refl refl p.inside b.shows in
      record {
        bare = tabled-bare text true [] [] left m line ls s (λ t. refl) (λ t. few) f i a e r p (same-table text m ls s z).2;
        arounds = b.arounds;
        shows = behind-as a.frames a.behind p.more (subst (λ (l : List Event). Shows text one 0 ((flat a.frames ++ a.behind) ++ l)) (sym p.is) q);
      }

  leaf-tops : (kind_num m.kind ≡ 5 → level_of m.kind ≤ 65535) → (a : State) → TopBare text ss left (with_attr 0 a) → (leaf_events text m line true ls a).number ≡ 0
      → TopBare text one left (with_attr 0 (leaf_events text m line true ls a))
  unfolding leafed-bare plain_more bare-more bare-on
  leaf-tops k a p z =
      let c = p.bare in
      let e = enter_event (leaf_node m line true) in
      let q = leaf-leafed text true [] [] left m line ls s (λ t. refl) (λ t. few) f i b.bare k a c z in
      let x = closing e q.from q.to in
      let n = leaf-enter m line true in
      let v = shows-block text ss 0 (flat c.frames ++ c.behind) q.lines e x (omega arith) refl n.0 refl refl (whole-roles 3 q.lines (omega arith) q.inlines) p.shows in
      let w = subst (λ (j : ℕ). Shows text (ss ++ (line_start text j ∷ [])) 0 ((flat c.frames ++ c.behind) ++ (e ∷ (q.lines ++ (x ∷ []))))) n.1 v in
      record {
        bare = leafed-bare text true [] [] left m line ls s (λ t. refl) (λ t. few) f i b.bare a (leaf_events text m line true ls a) c q (same-leaf text m line true ls a z).2;
        arounds = p.arounds;
        shows = behind-as c.frames c.behind (e ∷ (q.lines ++ (x ∷ []))) w;
      }

  section-tops : (let r = section_of (level_of m.kind) m.start s in r.number ≡ 0 → TopBare text ss left (with_attr 0 r))
  unfolding sectioned-bare
  section-tops z =
      let a = b.bare in
      let r = section_of (level_of m.kind) m.start s in
      let p = section-sectioned text true [] [] left m line ls s (λ t. refl) (λ t. few) f i a (level_of m.kind) refl z in
      let q = shows-section text ss a.frames a.behind s r p b.arounds b.shows in
      record { bare = sectioned-bare text true [] [] left m line ls s (λ t. refl) (λ t. few) f i a r refl p; arounds = q.0; shows = q.1 }

  abbrev atom : Event
  atom = mark 4 (kind_num m.kind) m.start m.end 0

  atom-tops : (at v : ℕ) → kind_num m.kind ≤ 3 → (push_of atom s).number ≡ 0 → (v ≡ 0) ⊎ (v ≡ pick (eqb s.attr 0) (length s.evs + 1) s.attr)
      → TopBare text one left (with_at at (with_attr v (push_of atom s)))
  unfolding atom-bare bare-more bare-on
  atom-tops at v l z e =
      let a = b.bare in
      let q = atom-attributed text true [] [] left m line ls s (λ t. refl) (λ t. few) f i a at v z e in
      record {
        bare = atom-bare text true [] [] left m line ls s (λ t. refl) (λ t. few) f i a at v l z q;
        arounds = b.arounds;
        shows = behind-as a.frames a.behind (atom ∷ []) (shows-atom text ss (flat a.frames ++ a.behind) atom refl b.shows);
      }

  plain_done : (at : ℕ) → (kind_num m.kind ≡ 5 → level_of m.kind ≤ 65535) → (plain_of text true m line ls s).number ≡ 0
      → TopBare text one left (with_at at (attr_of m (length s.evs) (plain_of text true m line ls s)))
  plain_done at k =
      let beside : (r : State) → TopBare text one left (with_attr 0 r) → TopBare text one left (with_at at (with_attr 0 r)) =
      λ r. bare-beside-tops text one left (with_attr 0 r) (with_at at (with_attr 0 r)) refl refl (refl, refl, refl) in
      plain-ways (TopBare text one left) text true m line ls at s (atom-tops at) (λ z. beside (table_of text m ls s) (table-tops z))
      (λ z. beside (leaf_of text m line true ls s)
      (leaf-ways (λ r. TopBare text ss left (with_attr 0 r)) (λ r. TopBare text one left (with_attr 0 r)) text m line true ls s none-tops (λ t. section-tops) (leaf-tops k) z))

pub plain-tops : (text : List ℕ) (left : ℕ) (ss : List ℕ) (m : Met) (line : ℕ) (ls : List Span) (at : ℕ) (a : State) → left ≤ 32 → Fit text m line → Inside text ls
    → (kind_num m.kind ≡ 5 → level_of m.kind ≤ 65535) → is_container m.kind ≡ false → TopBare text ss left a → (plain_of text true m line ls a).number ≡ 0
    → TopBare text (ss ++ (line_start text m.start ∷ [])) left (with_at at (attr_of m (length a.evs) (plain_of text true m line ls a)))
plain-tops text left ss m line ls at a few f i k c b = plain_done text left ss m line ls a few f i b at k
