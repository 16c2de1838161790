-- The Enters and Atoms that the walk writes are ones that a record can hold. Assumes nothing.
use mathlib.Core.Path.{◌≡◌, refl, sym, ◌∙◌}
use mathlib.Core.Logic.{inl, inr}
use mathlib.Core.Bool.{Bool, true, false, not}
use mathlib.Core.List.{List}
use Prim.Native.Nat.{ℕ, zero, suc, ◌+◌, ◌*◌, ◌/◌, ◌%◌, ◌≤◌, ◌<◌}
use native.Mathlib.Omega.{arith}
use lib.Dec.{eqb, leb}
use lib.ListN.{length, get_or}
use borrow.Author.Tests.{eqb-true, le-leb}
use Rattle.classes.specs.Choice.{pick, both}
use Rattle.classes.proofs.ChoiceLaws.{true-left, true-right}
use Rattle.numbers.specs.Numbers.{num_of}
use Rattle.numbers.specs.declared.Numbering.{Numbering}
use Rattle.numbers.specs.declared.Numbering.TheVariants.{Decimal, AlphaLower, AlphaUpper, RomanLower, RomanUpper}
use Rattle.markers.specs.Markers.{marker_num, style_num}
use Rattle.markers.specs.declared.Style.{Style}
use Rattle.markers.specs.declared.Style.TheVariants.{Period, Paren, ParenParen}
use Rattle.markers.specs.declared.Marker.{Marker}
use Rattle.markers.specs.declared.Marker.TheVariants.{Nothing, Unordered, Ordered, Task, Description}
use Rattle.kinds.specs.declared.Kind.{Kind}
use Rattle.kinds.specs.declared.Kind.TheVariants.{Blankline, Attributes, ThematicBreak, Paragraph, Heading, Fenced, Definition, Blockquote, ListItem, Table}
use Rattle.measure.specs.Continue.{kind_num, level_of}
use Rattle.events.specs.Events.{enter_event}
use Rattle.events.specs.declared.Event.{Event}
use Rattle.events.specs.declared.Node.{Node}
use Rattle.events.proofs.StaleLaws.{enter-live}
use Rattle.events.proofs.PackEdits.{body_as}
use Rattle.lists.specs.Lists.{type_detail, type_value}
use Rattle.lists.proofs.ListLaws.{ordered-detail}
use Rattle.fields.specs.Fields.{fields, within, is_listed, field_of, is_bullet, is_type, in_range}
use Rattle.walk.specs.Fields.{from_of, to_of, marker_in}
use Rattle.walk.specs.Leaf.{node, mark, pair_node, leaf_node}
use Rattle.walk.specs.Tree.{list_node, item_node, container_node}
use Rattle.walk.specs.declared.Met.{Met}
use Rattle.theorems.proofs.Proper.{Marked, Proper, of-pick}
use Rattle.theorems.proofs.Nests.{Word, Fine}
use Rattle.theorems.proofs.Trees.{Fit}
use Rattle.theorems.proofs.FineLaws.{both_true, bodied, ranged-body, body-ranged, made-fine, ranged-span, bullet-small}

-- an Enter with another body
remade-fine : (text : List ℕ) (e : Event) (a b c d : ℕ) → e.role ≡ 1 → Fine text e → bodied (length text) e.role e.node a b c d ≡ true → Word text c → Word text d
    → Fine text (record { role = e.role; node = e.node; start = e.start; end = e.end; a = a; b = b; c = c; d = d })
remade-fine text e a b c d r f p y z =
    let x = f (enter-live e r) in
    let s = ranged-span (length text) e x.1 in
    λ u. (x.0, body-ranged (length text) (record { role = e.role; node = e.node; start = e.start; end = e.end; a = a; b = b; c = c; d = d }) s.0 s.1 p, y, z)

-- ---- kinds
-- a heading has a level
level-some : (n : ℕ) (k : Kind) → kind_num k ≡ 5 → Proper n k → 1 ≤ level_of k
level-some n Blankline e p = absurd (omega arith)
level-some n Attributes e p = absurd (omega arith)
level-some n ThematicBreak e p = absurd (omega arith)
level-some n Paragraph e p = absurd (omega arith)
level-some n (Heading l) e p = p
level-some n (Fenced i l m s c k) e p = absurd (omega arith)
level-some n (Definition i f s b) e p = absurd (omega arith)
level-some n Blockquote e p = absurd (omega arith)
level-some n (ListItem i m b) e p = absurd (omega arith)
level-some n (Table c b) e p = absurd (omega arith)

-- an item's marker is one
pub item-marked : (n : ℕ) (k : Kind) → kind_num k ≡ 9 → Proper n k → Marked (marker_in k)
item-marked n Blankline e p = absurd (omega arith)
item-marked n Attributes e p = absurd (omega arith)
item-marked n ThematicBreak e p = absurd (omega arith)
item-marked n Paragraph e p = absurd (omega arith)
item-marked n (Heading l) e p = absurd (omega arith)
item-marked n (Fenced i l m s c x) e p = absurd (omega arith)
item-marked n (Definition i f s b) e p = absurd (omega arith)
item-marked n Blockquote e p = absurd (omega arith)
item-marked n (ListItem i m b) e p = p
item-marked n (Table c b) e p = absurd (omega arith)

-- only an item has a marker
pub marker-kind : (k : Kind) → marker_num (marker_in k) ≡ 4 → kind_num k ≡ 9
marker-kind Blankline e = absurd (omega (arith, e))
marker-kind Attributes e = absurd (omega (arith, e))
marker-kind ThematicBreak e = absurd (omega (arith, e))
marker-kind Paragraph e = absurd (omega (arith, e))
marker-kind (Heading l) e = absurd (omega (arith, e))
marker-kind (Fenced i l m s c k) e = absurd (omega (arith, e))
marker-kind (Definition i f s b) e = absurd (omega (arith, e))
marker-kind Blockquote e = absurd (omega (arith, e))
marker-kind (ListItem i m b) e = refl
marker-kind (Table c b) e = absurd (omega (arith, e))

-- ---- leaves
pair-true : (most a b : ℕ) → a ≤ b → b ≤ most → both (leb a most) (both (leb b most) (leb a b)) ≡ true
pair-true most a b h k = rw (le-leb a most (omega arith), le-leb b most k) (le-leb a b h)

heading-true : (most l v i : ℕ) → 1 ≤ l → l ≤ 65535 → v ≤ 1 → i ≤ most → bodied most 1 16 l v i 0 ≡ true
unfolding fields within field_of in_range
heading-true most l v i p q h k = rw (le-leb 1 l p, le-leb l 65535 q, le-leb v 1 h, le-leb i most k)

module _ (text : List ℕ) (m : Met) (line : ℕ) (f : Fit text m line) where
  -- a node whose body is empty, one whose body is a pair
  bare-fine : (k : ℕ) → is_listed 1 k ≡ true → bodied (length text) 1 k 0 0 0 0 ≡ true → Fine text (enter_event (node k m.start m.end 0 0 0 0))
  bare-fine k l e = made-fine text (enter_event (node k m.start m.end 0 0 0 0)) l e (inr (omega arith)) (inr (omega arith)) f.start f.end

  pair-fine : (k : ℕ) → is_listed 1 k ≡ true → ((a b : ℕ) → bodied (length text) 1 k a b 0 0 ≡ both (leb a (length text)) (both (leb b (length text)) (leb a b)))
      → Fine text (enter_event (pair_node m line k))
  pair-fine k l e =
      let a = line + from_of m.kind in
      let b = line + to_of m.kind in
      made-fine text (enter_event (pair_node m line k)) l (e a b ∙ pair-true (length text) a b f.pair f.last) (inr (omega arith)) (inr (omega arith)) f.start f.end

  heading-fine : (v : ℕ) → v ≤ 1 → 1 ≤ level_of m.kind → level_of m.kind ≤ 65535 → Fine text (enter_event (node 16 m.start m.end (level_of m.kind) v m.start 0))
  unfolding is_listed within
  heading-fine v h p q =
      let x = enter_event (node 16 m.start m.end (level_of m.kind) v m.start 0) in
      let i : m.start ≤ length text = omega (arith, f.start, f.end) in
      made-fine text x refl (heading-true (length text) (level_of m.kind) v m.start p q h i) (inl i) (inr (omega arith)) f.start f.end

-- a node by a number
pub by_number : (P : Node → Type 0) (k a b c : ℕ) (x y z w : Node) → (k ≡ a → P x) → P y → P z → P w → P (pick (eqb k a) x (pick (eqb k b) y (pick (eqb k c) z w)))
by_number P k a b c x y z w p q r s =
    of-pick P (eqb k a) x _ (λ e. p (eqb-true k a e)) (λ e. of-pick P (eqb k b) y _ (λ e. q) (λ e. of-pick P (eqb k c) z w (λ e. r) (λ e. s)))

flag-le : (b : Bool) → pick b 1 0 ≤ 1
flag-le true = omega arith
flag-le false = omega arith

pub leaf-fine : (text : List ℕ) (m : Met) (line : ℕ) (top : Bool) → Fit text m line → (kind_num m.kind ≡ 5 → level_of m.kind ≤ 65535)
    → Fine text (enter_event (leaf_node m line top))
unfolding leaf_node fields within is_listed field_of in_range
leaf-fine text m line top f l =
    by_number (λ x. Fine text (enter_event x)) (kind_num m.kind) 5 7 6 _ (pair_node m line 20) (pair_node m line 21) _
    (λ e. heading-fine text m line f (pick top 1 0) (flag-le top) (level-some (length text) m.kind e f.proper) (l e))
    (pair-fine text m line f 20 refl (λ a b. refl))
    (pair-fine text m line f 21 refl (λ a b. refl))
    (bare-fine text m line f 15 refl refl)

-- ---- containers
-- no Document, no paragraph
abbrev Contains : List ℕ → Node → Type 0
Contains text x = Fine text (enter_event x) × (x.node ≡ 1 → ⊥) × (x.node ≡ 15 → ⊥)

contains : (text : List ℕ) (x : Node) → 1 < x.node → x.node < 15 → Fine text (enter_event x) → Contains text x
contains text x h k f = (f, λ e. omega arith, λ e. omega arith)

item-contains : (text : List ℕ) (m : Met) (line k : ℕ) → Fit text m line → Contains text (item_node text m k)
unfolding item_node fields within is_listed field_of in_range
item-contains text m line k f =
    let b = not (eqb (get_or text (m.start + 3) 0) 32) in
    let v : ℕ = pick b 1 0 in
    let task = node 9 m.start m.end v 0 0 0 in
    let detail = node 10 m.end m.end 0 0 0 0 in
    of-pick (Contains text) (eqb k 3) task _
    (λ e. contains text task (omega arith) (omega arith) (made-fine text (enter_event task) refl (rw (le-leb v 1 (flag-le b))) (inr (omega arith)) (inr (omega arith)) f.start f.end))
    (λ e. of-pick (Contains text) (eqb k 4) detail _
    (λ e. contains text detail (omega arith) (omega arith) (made-fine text (enter_event detail) refl refl (inr (omega arith)) (inr (omega arith)) (omega arith) f.end))
    (λ e. contains text _ (omega arith) (omega arith) (bare-fine text m line f 8 refl refl)))

pub container-fine : (text : List ℕ) (m : Met) (line : ℕ) → Fit text m line → Contains text (container_node text m line)
unfolding container_node fields within is_listed field_of in_range
container-fine text m line f =
    by_number (Contains text) (kind_num m.kind) 6 7 8 (pair_node m line 3) (pair_node m line 11) _ _
    (λ e. contains text (pair_node m line 3) (omega arith) (omega arith) (pair-fine text m line f 3 refl (λ a b. refl)))
    (contains text (pair_node m line 11) (omega arith) (omega arith) (pair-fine text m line f 11 refl (λ a b. refl)))
    (contains text _ (omega arith) (omega arith) (bare-fine text m line f 2 refl refl))
    (item-contains text m line (marker_num (marker_in m.kind)) f)

pub item-node : (text : List ℕ) (m : Met) (line : ℕ) → kind_num m.kind ≡ 9 → marker_num (marker_in m.kind) ≡ 4 → (container_node text m line).node ≡ 10
unfolding container_node item_node
item-node text m line e f = rw (e, f)

pub term-fine : (text : List ℕ) (m : Met) (line : ℕ) → Fit text m line → Fine text (enter_event (node 17 m.start m.end 0 0 0 0))
unfolding fields within is_listed field_of in_range
term-fine text m line f = bare-fine text m line f 17 refl refl

pub atom-fine : (text : List ℕ) (k i j : ℕ) → 1 ≤ k → k ≤ 3 → i ≤ j → j ≤ length text → Fine text (mark 4 k i j 0)
unfolding within is_listed field_of in_range
atom-fine text k i j p q = made-fine text (mark 4 k i j 0) (rw (le-leb 1 k p, le-leb k 3 q)) refl (inr (omega arith)) (inr (omega arith))

-- ---- lists
by-style : (k : ℕ) → is_type (k * 4 + 0) ≡ true → is_type (k * 4 + 1) ≡ true → is_type (k * 4 + 2) ≡ true → (s : Style) → is_type (k * 4 + style_num s) ≡ true
by-style k p q r Period = p
by-style k p q r Paren = q
by-style k p q r ParenParen = r

type-true : (n : Numbering) (s : Style) → is_type (num_of n * 4 + style_num s) ≡ true
unfolding within
type-true Decimal = by-style 1 refl refl refl
type-true AlphaLower = by-style 2 refl refl refl
type-true AlphaUpper = by-style 3 refl refl refl
type-true RomanLower = by-style 4 refl refl refl
type-true RomanUpper = by-style 5 refl refl refl

-- a list's flag, and its type in three words
typed-true : (most : ℕ) (ty : Marker) (a : ℕ) → Marked ty → leb a 1 ≡ true → bodied most 1 (marker_num ty + 3) a (type_detail ty) (type_value ty % 4294967296) (type_value ty / 4294967296) ≡ true
unfolding fields field_of within in_range
typed-true most Nothing a m h = absurd m
typed-true most (Unordered b) a m h = both_true (leb a 1) _ h (both_true (is_bullet b) true m refl)
typed-true most (Ordered n s v) a m h = both_true (leb a 1) _ h (both_true (is_type (num_of n * 4 + style_num s)) true (type-true n s) refl)
typed-true most (Task b) a m h = both_true (leb a 1) _ h (both_true (is_bullet b) true m refl)
typed-true most Description a m h = both_true (leb a 1) true h refl

-- a value's halves
half-low : (v : ℕ) → v % 4294967296 < 4294967296
half-low v = omega arith

half_high : (ty : Marker) → Marked ty → type_value ty / 4294967296 < 4294967296
half_high Nothing m = absurd m
half_high (Unordered b) m = omega arith
half_high (Ordered n s v) m = omega arith
half_high (Task b) m = omega arith
half_high Description m = omega arith

-- Unordered, Ordered, TaskList, DescriptionList
pub marked-num : (ty : Marker) → Marked ty → (4 ≤ marker_num ty + 3) × (marker_num ty + 3 ≤ 7)
marked-num Nothing m = absurd m
marked-num (Unordered b) m = (omega arith, omega arith)
marked-num (Ordered n s v) m = (omega arith, omega arith)
marked-num (Task b) m = (omega arith, omega arith)
marked-num Description m = (omega arith, omega arith)

list-listed : (k : ℕ) → 4 ≤ k → k ≤ 7 → is_listed 1 k ≡ true
unfolding is_listed within
list-listed k p q = rw (le-leb 1 k (omega arith), le-leb k 21 (omega arith))

pub list-fine : (text : List ℕ) (ty : Marker) (pos : ℕ) → pos ≤ length text → Marked ty
    → Fine text (enter_event (list_node ty pos)) × (4 ≤ (list_node ty pos).node) × ((list_node ty pos).node ≤ 7)
list-fine text ty pos h m =
    let r = marked-num ty m in
    let l = list-listed (marker_num ty + 3) r.0 r.1 in
    (made-fine text (enter_event (list_node ty pos)) l (typed-true (length text) ty 1 m refl) (inr (half-low (type_value ty))) (inr (half_high ty m)) (omega arith) h, r.0, r.1)

-- the first word of a list is its flag
flag-field : (k : ℕ) → 4 ≤ k → k ≤ 7 → field_of 1 k 0 ≡ 2
unfolding fields field_of within
flag-field zero h l = absurd (omega arith)
flag-field (suc zero) h l = absurd (omega arith)
flag-field (suc (suc zero)) h l = absurd (omega arith)
flag-field (suc (suc (suc zero))) h l = absurd (omega arith)
flag-field (suc (suc (suc (suc zero)))) h l = refl
flag-field (suc (suc (suc (suc (suc zero))))) h l = refl
flag-field (suc (suc (suc (suc (suc (suc zero)))))) h l = refl
flag-field (suc (suc (suc (suc (suc (suc (suc zero))))))) h l = refl
flag-field (suc (suc (suc (suc (suc (suc (suc (suc k)))))))) h l = absurd (omega arith)

-- what is asked of the others
abbrev others : ℕ → ℕ → ℕ → ℕ → ℕ → Bool
others most k b c d = both (in_range most (field_of 1 k 1) b) (both (in_range most (field_of 1 k 2) c) (both (in_range most (field_of 1 k 3) d) true))

flag-first : (most k a b c d : ℕ) → 4 ≤ k → k ≤ 7 → bodied most 1 k a b c d ≡ both (leb a 1) (others most k b c d)
unfolding in_range
flag-first most k a b c d h l = rw (flag-field k h l)

loose-true : (most role k a b c d v : ℕ) → role ≡ 1 → 4 ≤ k → k ≤ 7 → v ≤ 1 → bodied most role k a b c d ≡ true → bodied most role k v b c d ≡ true
loose-true most role k a b c d v r h l w p =
    let q : bodied most 1 k a b c d ≡ true = rw r at p in
    let t = others most k b c d in
    rw r (flag-first most k v b c d h l ∙ both_true (leb v 1) t (le-leb v 1 w) (true-right (leb a 1) t (sym (flag-first most k a b c d h l) ∙ q)))

-- a list that is loose or tight
pub loose-fine : (text : List ℕ) (e : Event) (v : ℕ) → e.role ≡ 1 → 4 ≤ e.node → e.node ≤ 7 → v ≤ 1 → Fine text e → Fine text (body_as 0 v e)
loose-fine text e v r h l w f =
    let x = f (enter-live e r) in
    remade-fine text e v e.b e.c e.d r f (loose-true (length text) e.role e.node e.a e.b e.c e.d v r h l w (ranged-body (length text) e x.1)) x.2 x.3

retype-true : (most role k a b c d : ℕ) (ty : Marker) → role ≡ 1 → k ≡ marker_num ty + 3 → Marked ty → bodied most role k a b c d ≡ true
    → bodied most role k a (type_detail ty) (type_value ty % 4294967296) (type_value ty / 4294967296) ≡ true
retype-true most role k a b c d ty r e m p =
    let n = marker_num ty + 3 in
    let g = marked-num ty m in
    let q : bodied most 1 n a b c d ≡ true = rw (r, e) at p in
    rw (r, e) (typed-true most ty a m (true-left (leb a 1) (others most n b c d) (sym (flag-first most n a b c d g.0 g.1) ∙ q)))

-- a list of another type
pub retype-fine : (text : List ℕ) (e : Event) (ty : Marker) → e.role ≡ 1 → e.node ≡ marker_num ty + 3 → Marked ty → Fine text e
    → Fine text (body_as 3 (type_value ty / 4294967296) (body_as 2 (type_value ty % 4294967296) (body_as 1 (type_detail ty) e)))
retype-fine text e ty r n m f =
    let p = ranged-body (length text) e (f (enter-live e r)).1 in
    remade-fine text e e.a (type_detail ty) (type_value ty % 4294967296) (type_value ty / 4294967296) r f
    (retype-true (length text) e.role e.node e.a e.b e.c e.d ty r n m p) (inr (half-low (type_value ty))) (inr (half_high ty m))

-- ---- a type's word
pub detail-small : (ty : Marker) → Marked ty → type_detail ty < 256
detail-small Nothing m = absurd m
detail-small (Unordered b) m = bullet-small b m
detail-small (Ordered n s v) m = (ordered-detail (Ordered n s v) n s v (num_of n) (style_num s) refl refl refl).1
detail-small (Task b) m = bullet-small b m
detail-small Description m = omega arith
