-- A block that is no container in the tree: an Atom, a table, or a leaf, behind what the level has. Assumes nothing.
use mathlib.Core.Path.{◌≡◌, refl, sym, ap, subst, ◌∙◌}
use mathlib.Core.Logic.{◌⊎◌, inl, inr}
use mathlib.Core.Bool.{Bool, true, false, true≢false}
use mathlib.Core.List.{List, [], ◌∷◌, ◌++◌, append_assoc}
use Prim.Native.Nat.{ℕ, ◌+◌, ◌-◌, ◌*◌, ◌≤◌}
use native.Mathlib.Omega.{arith}
use lib.Dec.{eqb, leb}
use lib.ListN.{length, length-append}
use borrow.Author.Tests.{eq-eqb, ne_eqb, leb-true, leb-false}
use Rattle.classes.specs.Choice.{pick, both}
use Rattle.classes.proofs.ChoiceLaws.{true-left}
use Rattle.lines.specs.Lines.{Span}
use Rattle.kinds.specs.declared.Kind.{Kind}
use Rattle.kinds.specs.declared.Kind.TheVariants.{Blankline, Attributes as Attrs, ThematicBreak, Paragraph as Para, Heading, Fenced, Definition, Blockquote, ListItem, Table}
use Rattle.measure.specs.Continue.{kind_num, level_of}
use Rattle.events.specs.State.{State, with_attr, with_at}
use Rattle.events.specs.Events.{width, push_of, enter_event}
use Rattle.events.specs.declared.Event.{Event}
use Rattle.events.specs.declared.Node.{Node}
use Rattle.lists.specs.declared.OpenList.{OpenList}
use Rattle.walk.specs.Fields.{is_container}
use Rattle.walk.specs.Leaf.{node, mark, section_of, pair_node, leaf_node, leaf_of}
use Rattle.walk.specs.Table.{table_of}
use Rattle.walk.specs.Tree.{plain_of, attr_of}
use Rattle.walk.specs.declared.Met.{Met}
use Rattle.theorems.proofs.LevelSteps.{passed, chosen, same-push, leaf_events, same-leaf, same-table}
use Rattle.theorems.proofs.Proper.{of-pick}
use Rattle.theorems.proofs.Nests.{Whole, Roles, Frame, flat}
use Rattle.theorems.proofs.WholeLaws.{whole-none, whole-more, whole-leaf, roles-append, closing}
use Rattle.theorems.proofs.HoldLaws.{holds-words, push-is}
use Rattle.theorems.proofs.Trees.{Tree, AllTyped, Led, Attributed, Inside, Fit}
use Rattle.theorems.proofs.FineNodes.{by_number, leaf-fine}
use Rattle.theorems.proofs.TreeSteps.{tree-beside}
use Rattle.theorems.proofs.TableTree.{Tabled, table-tree}
use Rattle.theorems.proofs.LeafTree.{Leafed, leaf-tree, atom-tree}
use Rattle.theorems.proofs.SectionTree.{Sectioned, section-tree}
use Rattle.theorems.proofs.ListTree.{alike_refl, led-none, led-append}
use Rattle.theorems.proofs.TreeLevel.{Outside, Bare}
use Rattle.theorems.proofs.TreeLevelLaws.{bare-on, bare-beside}

pub kind-some : (k : Kind) → 1 ≤ kind_num k
kind-some Blankline = omega arith
kind-some Attrs = omega arith
kind-some ThematicBreak = omega arith
kind-some Para = omega arith
kind-some (Heading l) = omega arith
kind-some (Fenced i l m s c n) = omega arith
kind-some (Definition i f s b) = omega arith
kind-some Blockquote = omega arith
kind-some (ListItem i m b) = omega arith
kind-some (Table c b) = omega arith

-- ---- what a leaf's events begin with
pub leaf-led : (m : Met) (line : ℕ) (top : Bool) (h : ℕ) (lines : List Event) (from to : ℕ) → Roles 3 lines
    → let e = enter_event (leaf_node m line top) in Led h (e ∷ (lines ++ (closing e from to ∷ [])))
unfolding leaf_node
leaf-led m line top h lines from to r =
    let P : Node → Type 0 = λ x. Led h (enter_event x ∷ (lines ++ (closing (enter_event x) from to ∷ []))) in
    by_number P (kind_num m.kind) 5 7 6 _ (pair_node m line 20) (pair_node m line 21) _ (λ k. inl (λ a b. omega (arith, b))) (inl (λ a b. omega (arith, b))) (inl (λ a b. omega (arith, b)))
    (inr (record {
      enter = enter_event (node 15 m.start m.end 0 0 0 0);
      lines = lines;
      from = from;
      to = to;
      rest = [];
      is = refl;
      role = refl;
      node = refl;
      bare = (refl, refl, refl, refl);
      inlines = r;
      whole = whole-none h;
    }))

-- ---- Attributes just before
-- one more Atom behind them, or the first of them
attributed-atom : (fs : List Frame) (g : List Event) (x : Event) (w : ℕ) (s r : State) → x.role ≡ 4 → w ≡ width * length (flat fs ++ g) → r.attr ≡ pick (eqb s.attr 0) (w + 1) s.attr
    → Attributed fs g s → Attributed fs (g ++ (x ∷ [])) r
attributed-atom fs g x w s r i h e (inl z) =
    let k : pick (eqb s.attr 0) (w + 1) s.attr ≡ w + 1 = rw (eq-eqb s.attr 0 z) in
    inr (record { front = g; behind = x ∷ []; is = refl; atoms = (i, tt); some = omega arith; place = omega (arith, e, k, h) })
attributed-atom fs g x w s r i h e (inr p) =
    let k : pick (eqb s.attr 0) (w + 1) s.attr ≡ s.attr = rw (ne_eqb s.attr 0 (λ z. omega (arith, z, p.place))) in
    inr (record {
      front = p.front;
      behind = p.behind ++ (x ∷ []);
      is = ap (λ (l : List Event). l ++ (x ∷ [])) p.is ∙ append_assoc p.front p.behind (x ∷ []);
      atoms = roles-append 4 p.behind (x ∷ []) p.atoms (i, tt);
      some = omega (arith, length-append p.behind (x ∷ []));
      place = e ∙ k ∙ p.place;
    })

-- ---- the ways through it
-- a leaf of a state that Q holds of: this one, or this one in a heading's section
pub leaf-ways : (Q P : State → Type 0) (text : List ℕ) (m : Met) (line : ℕ) (top : Bool) (ls : List Span) (s : State) → Q s
    → (let x = section_of (level_of m.kind) m.start s in top ≡ true → x.number ≡ 0 → Q x)
    → ((a : State) → Q a → (leaf_events text m line top ls a).number ≡ 0 → P (leaf_events text m line top ls a))
    → (leaf_of text m line top ls s).number ≡ 0 → P (leaf_of text m line top ls s)
unfolding leaf_of
leaf-ways Q P text m line top ls s q x p =
    let c = eqb (kind_num m.kind) 5 in
    let y = section_of (level_of m.kind) m.start s in
    passed (pick (both top c) y s) (leaf_events text m line top ls) P (λ za. p _ (chosen (both top c) y s Q (λ e. x (true-left top c e)) (λ e z. q) za))

-- an Atom, a table, a leaf; and whether Attributes are just before then
pub plain-ways : (P : State → Type 0) (text : List ℕ) (top : Bool) (m : Met) (line : ℕ) (ls : List Span) (at : ℕ) (s : State)
    → (let r = push_of (mark 4 (kind_num m.kind) m.start m.end 0) s in
    (v : ℕ) → kind_num m.kind ≤ 3 → r.number ≡ 0 → (v ≡ 0) ⊎ (v ≡ pick (eqb s.attr 0) (length s.evs + 1) s.attr) → P (with_at at (with_attr v r)))
    → ((table_of text m ls s).number ≡ 0 → P (with_at at (with_attr 0 (table_of text m ls s))))
    → ((leaf_of text m line top ls s).number ≡ 0 → P (with_at at (with_attr 0 (leaf_of text m line top ls s))))
    → (plain_of text top m line ls s).number ≡ 0 → P (with_at at (attr_of m (length s.evs) (plain_of text top m line ls s)))
unfolding plain_of
plain-ways P text top m line ls at s atom table leaf =
    let num = kind_num m.kind in
    let x = mark 4 num m.start m.end 0 in
    let w = length s.evs in
    let Q : State → Type 0 = λ r. P (with_at at (attr_of m w r)) in
    let other : (r : State) → leb num 3 ≡ false → P (with_at at (with_attr 0 r)) → Q r = λ r e p. rw (ne_eqb num 2 (λ i. omega (arith, i, leb-false num 3 e))) p in
    chosen (leb num 3) (push_of x s) _ Q
    (λ e z.
    let r = push_of x s in
    let l = leb-true num 3 e in
    let a = ap (λ (k : State). pick (eqb k.attr 0) (w + 1) k.attr) (push-is x s z) in
    of-pick (λ (k : State). P (with_at at k)) (eqb num 2) (with_attr (pick (eqb r.attr 0) (w + 1) r.attr) r) (with_attr 0 r) (λ c. atom _ l z (inr a)) (λ c. atom 0 l z (inl refl)))
    (λ e. chosen (eqb num 10) (table_of text m ls s) (leaf_of text m line top ls s) Q (λ c z. other (table_of text m ls s) e (table z))
    (λ c z. other (leaf_of text m line top ls s) e (leaf z)))

-- ---- the kinds of blocks
module _ (text : List ℕ) (top : Bool) (own : List Frame) (os : List OpenList) (left : ℕ) (m : Met) (line : ℕ) (ls : List Span) (s : State)
    (none : top ≡ true → os ≡ []) (few : top ≡ true → left ≤ 32) (f : Fit text m line) (i : Inside text ls) (b : Bare text top own os left s) where
  -- the level is as between two blocks, but for the Attributes just before
  abbrev Gives : State → Type 0
  Gives r = Bare text top own os left (with_attr 0 r) × (top ≡ false → r.sec ≡ s.sec)

  plain-none : Gives s
  plain-none =
      let r = with_attr 0 s in
      let t = tree-beside text b.frames b.behind s r refl refl b.tree in
      (bare-on text top own os left s r b b.frames b.behind (alike_refl b.frames) t refl refl b.led (λ e. inl refl), λ e. refl)

  -- more behind it
  unfoldable pub bare-more : (a r : State) (w : List Event) (p : Bare text top own os left a) → Tree text p.frames (p.behind ++ w) r → Whole (100 - length p.frames) w
      → Led (100 - length p.frames) w → r.lst ≡ a.lst → r.sec ≡ a.sec → (top ≡ true → Attributed p.frames (p.behind ++ w) r) → Bare text top own os left r
  bare-more a r w p t q l i j =
      bare-on text top own os left a r p p.frames (p.behind ++ w) (alike_refl p.frames) t i j (led-append (100 - length p.frames) p.behind w p.led q (λ e. l))

  unfoldable pub plain_more : (a r : State) (w : List Event) (p : Bare text top own os left a) → Tree text p.frames (p.behind ++ w) r → Whole (100 - length p.frames) w
      → Led (100 - length p.frames) w → r.lst ≡ a.lst → r.sec ≡ a.sec → Bare text top own os left (with_attr 0 r)
  plain_more a r w p t q l i j = bare-more a (with_attr 0 r) w p (tree-beside text p.frames (p.behind ++ w) r (with_attr 0 r) refl refl t) q l i j (λ e. inl refl)

  abbrev atom : Event
  atom = mark 4 (kind_num m.kind) m.start m.end 0

  -- a table
  pub table-tabled : (table_of text m ls s).number ≡ 0 → Tabled text (mark 1 12 m.start m.end 0) b.frames b.behind s (table_of text m ls s)
  table-tabled = table-tree text m ls b.frames b.behind s f.start f.end f.from f.to i b.tree b.stands.some (omega (arith, b.stands.room))

  unfoldable pub tabled-bare : (e : Event) (r : State) → Tabled text e b.frames b.behind s r → r.sec ≡ s.sec → Bare text top own os left (with_attr 0 r)
  tabled-bare e r p = plain_more s r p.more b p.tree p.whole (inl p.first) p.lst

  table-plain : (table_of text m ls s).number ≡ 0 → Gives (table_of text m ls s)
  table-plain z = let e = (same-table text m ls s z).2 in (tabled-bare (mark 1 12 m.start m.end 0) (table_of text m ls s) (table-tabled z) e, λ t. e)

  -- a leaf, behind what there is after its section
  pub leaf-leafed : (kind_num m.kind ≡ 5 → level_of m.kind ≤ 65535) → (a : State) (p : Bare text top own os left (with_attr 0 a)) → (leaf_events text m line top ls a).number ≡ 0
      → Leafed text p.frames p.behind (leaf_node m line top) a (leaf_events text m line top ls a)
  leaf-leafed k a p =
      let t = tree-beside text p.frames p.behind (with_attr 0 a) a refl refl p.tree in
      leaf-tree text m line top ls p.frames p.behind a t p.stands.some (omega (arith, p.stands.room)) (leaf-fine text m line top f k) f.from f.to i

  unfoldable pub leafed-bare : (a r : State) (p : Bare text top own os left (with_attr 0 a)) → Leafed text p.frames p.behind (leaf_node m line top) a r → r.sec ≡ a.sec
      → Bare text top own os left (with_attr 0 r)
  leafed-bare a r p q =
      let e = enter_event (leaf_node m line top) in
      let h = 100 - length p.frames in
      let w = e ∷ (q.lines ++ (closing e q.from q.to ∷ [])) in
      plain_more (with_attr 0 a) r w p q.tree (whole-more 1 h w (omega (arith, p.stands.room)) q.whole) (leaf-led m line top h q.lines q.from q.to q.inlines) q.lst

  leaf-plain : (kind_num m.kind ≡ 5 → level_of m.kind ≤ 65535) → (a : State) → Gives a → (leaf_events text m line top ls a).number ≡ 0 → Gives (leaf_events text m line top ls a)
  leaf-plain k a g z =
      let e = (same-leaf text m line top ls a z).2 in
      (leafed-bare a (leaf_events text m line top ls a) g.0 (leaf-leafed k a g.0 z) e, λ t. e ∙ g.1 t)

  -- a heading's section, at the top
  pub section-sectioned : (level : ℕ) → top ≡ true → (section_of level m.start s).number ≡ 0 → Sectioned text b.frames b.behind s (section_of level m.start s)
  section-sectioned level t =
      let secs = b.stands.secs t in
      section-tree text level m.start b.frames b.behind s (omega (arith, f.start, f.end)) b.tree (b.attrs t) secs.0 secs.1

  unfoldable pub sectioned-bare : (r : State) → top ≡ true → Sectioned text b.frames b.behind s r → Bare text top own os left (with_attr 0 r)
  sectioned-bare r t p =
      let fs = p.frame ∷ p.frames in
      record {
        frames = fs;
        behind = [];
        tree = tree-beside text fs [] r (with_attr 0 r) refl refl p.tree;
        stands = record { alike = λ e. absurd (true≢false (sym t ∙ e)); secs = λ e. (p.count, p.most); some = omega arith; room = omega (arith, p.count, p.most, few t) };
        typed = subst (λ (l : List OpenList). AllTyped fs l) (sym (none t)) tt;
        outside = subst (λ (l : List OpenList). Outside l (length fs)) (sym (none t)) tt;
        lst = p.lst ∙ b.lst;
        led = led-none (100 - length fs);
        attrs = λ e. inl refl;
      }

  section-plain : (level : ℕ) → top ≡ true → (section_of level m.start s).number ≡ 0 → Gives (section_of level m.start s)
  section-plain level t z = (sectioned-bare (section_of level m.start s) t (section-sectioned level t z), λ e. absurd (true≢false (sym t ∙ e)))

  leaf-of-plain : (kind_num m.kind ≡ 5 → level_of m.kind ≤ 65535) → (leaf_of text m line top ls s).number ≡ 0 → Gives (leaf_of text m line top ls s)
  leaf-of-plain k = leaf-ways Gives Gives text m line top ls s plain-none (section-plain (level_of m.kind)) (leaf-plain k)

  -- ---- after them, what is known of the Attributes just before
  abbrev After : State → Type 0
  After r = Bare text top own os left r × (top ≡ false → r.sec ≡ s.sec)

  unfoldable pub atom-bare : (at v : ℕ) → kind_num m.kind ≤ 3 → (push_of atom s).number ≡ 0 → let x = with_at at (with_attr v (push_of atom s)) in
      (top ≡ true → Attributed b.frames (b.behind ++ (atom ∷ [])) x) → Bare text top own os left x
  atom-bare at v l z q =
      let r = push_of atom s in
      let t = atom-tree text (kind_num m.kind) m.start m.end b.frames b.behind s (kind-some m.kind) l f.start f.end b.tree z in
      let w = whole-more 0 (100 - length b.frames) (atom ∷ []) (omega arith) (whole-leaf atom (λ e. omega (arith, e)) (λ e. omega (arith, e))) in
      let e = same-push atom s in
      let u = tree-beside text b.frames (b.behind ++ (atom ∷ [])) r (with_at at (with_attr v r)) refl refl t in
      bare-more s (with_at at (with_attr v r)) (atom ∷ []) b u w (inl (λ x y. omega (arith, x))) e.1 e.2 q

  -- none are, or one more, or the first
  pub atom-attributed : (at v : ℕ) → (push_of atom s).number ≡ 0 → (v ≡ 0) ⊎ (v ≡ pick (eqb s.attr 0) (length s.evs + 1) s.attr) → top ≡ true
      → Attributed b.frames (b.behind ++ (atom ∷ [])) (with_at at (with_attr v (push_of atom s)))
  atom-attributed at v z (inl e) t = inl e
  atom-attributed at v z (inr e) t =
      attributed-atom b.frames b.behind atom (length s.evs) s (with_at at (with_attr v (push_of atom s))) refl (holds-words b.frames b.behind s b.tree.holds) e (b.attrs t)

  plain_done : (at : ℕ) → (kind_num m.kind ≡ 5 → level_of m.kind ≤ 65535) → (plain_of text top m line ls s).number ≡ 0
      → After (with_at at (attr_of m (length s.evs) (plain_of text top m line ls s)))
  plain_done at k =
      let beside : (r : State) → Gives r → After (with_at at (with_attr 0 r)) =
      λ r p. (bare-beside text top own os left (with_attr 0 r) (with_at at (with_attr 0 r)) refl refl (refl, refl, refl) p.0, p.1) in
      plain-ways After text top m line ls at s
      (λ v l z e. (atom-bare at v l z (atom-attributed at v z e), λ t. (same-push atom s).2))
      (λ z. beside (table_of text m ls s) (table-plain z))
      (λ z. beside (leaf_of text m line top ls s) (leaf-of-plain k z))

pub plain-tree : (text : List ℕ) (top : Bool) (own : List Frame) (os : List OpenList) (left : ℕ) (m : Met) (line : ℕ) (ls : List Span) (at : ℕ) (a : State)
    → (top ≡ true → os ≡ []) → (top ≡ true → left ≤ 32) → Fit text m line → Inside text ls
    → (kind_num m.kind ≡ 5 → level_of m.kind ≤ 65535) → is_container m.kind ≡ false → Bare text top own os left a → (plain_of text top m line ls a).number ≡ 0
    → Bare text top own os left (with_at at (attr_of m (length a.evs) (plain_of text top m line ls a)))
    × (top ≡ false → (with_at at (attr_of m (length a.evs) (plain_of text top m line ls a))).sec ≡ a.sec)
plain-tree text top own os left m line ls at a none few f i k c b = plain_done text top own os left m line ls a none few f i b at k
