-- A type in words and back, and the stack of open lists as the view sees it. Assumes nothing.
use Prim.Native.Nat.{ℕ, suc, ◌+◌, ◌-◌, ◌*◌, ◌/◌, ◌%◌, ◌≤◌, ◌<◌}
use mathlib.Core.Path.{◌≡◌, refl, sym, ap, ◌∙◌}
use mathlib.Core.Bool.{Bool, true, false}
use mathlib.Core.List.{List, ◌++◌}
use native.Mathlib.Omega.{arith}
use lib.Dec.{eqb}
use lib.ListN.{length, take, get_or, set, length-append}
use lib.Seq.{take-take, length-take-le, take_at, get_or-take, sets, sets-eq}
use borrow.Author.Tests.{eq-eqb, ne_eqb, le-leb, lt-leb}
use Rattle.classes.specs.Choice.{pick, both}
use Rattle.numbers.specs.Numbers.{num_of}
use Rattle.numbers.specs.declared.Numbering.{Numbering}
use Rattle.numbers.specs.declared.Numbering.TheVariants.{Decimal, AlphaLower, AlphaUpper, RomanLower, RomanUpper}
use Rattle.markers.specs.Markers.{style_num}
use Rattle.markers.specs.declared.Style.{Style}
use Rattle.markers.specs.declared.Style.TheVariants.{Period, Paren, ParenParen}
use Rattle.markers.specs.declared.Marker.{Marker}
use Rattle.markers.specs.declared.Marker.TheVariants.{Nothing, Unordered, Ordered, Task, Description}
use Rattle.events.specs.State.{State, with_lst, refuse_of}
use Rattle.events.specs.Events.{patch_of}
use Rattle.events.specs.View.{view}
use Rattle.events.specs.declared.St.{St}
use Rattle.events.proofs.EventLaws.{take-sets}
use Rattle.lists.specs.Lists.{type_detail, type_value, type_word, numbering_by, style_by, type_of, same_type, list_words, push_list_of, last_list_of, set_list_of, pop_list_of, retype_of}
use Rattle.lists.specs.declared.OpenList.{OpenList}

-- ---- numberings and styles by number
pub last-numbering : (n : ℕ) → (n ≡ 1 → ⊥) → (n ≡ 2 → ⊥) → (n ≡ 3 → ⊥) → (n ≡ 4 → ⊥) → numbering_by n ≡ RomanUpper
unfolding numbering_by
last-numbering n a b c d = rw (ne_eqb n 1 a, ne_eqb n 2 b, ne_eqb n 3 c, ne_eqb n 4 d)

pub last-style : (n : ℕ) → (n ≡ 0 → ⊥) → (n ≡ 1 → ⊥) → style_by n ≡ ParenParen
unfolding style_by
last-style n a b = rw (ne_eqb n 0 a, ne_eqb n 1 b)

num-small : (n : Numbering) → num_of n ≤ 5
num-small Decimal = omega arith
num-small AlphaLower = omega arith
num-small AlphaUpper = omega arith
num-small RomanLower = omega arith
num-small RomanUpper = omega arith

style-small : (s : Style) → style_num s ≤ 2
style-small Period = omega arith
style-small Paren = omega arith
style-small ParenParen = omega arith

numbering-back : (n : Numbering) → numbering_by (num_of n) ≡ n
unfolding numbering_by
numbering-back Decimal = refl
numbering-back AlphaLower = refl
numbering-back AlphaUpper = refl
numbering-back RomanLower = refl
numbering-back RomanUpper = refl

style-back : (s : Style) → style_by (style_num s) ≡ s
unfolding style_by
style-back Period = refl
style-back Paren = refl
style-back ParenParen = refl

-- ---- the type of a word and a value
pub ordered-detail : (m : Marker) (n : Numbering) (s : Style) (v x y : ℕ) → m ≡ Ordered n s v → x ≡ num_of n → y ≡ style_num s → (x * 4 + y ≡ type_detail m) × (x * 4 + y < 256)
ordered-detail m n s v x y p q r =
    let a = num-small n in
    let b = style-small s in
    (rw (p, q, r), omega arith)

module _ (w v : ℕ) where
  pub is-unordered : w / 256 ≡ 1 → type_of w v ≡ Unordered (w % 256)
  unfolding type_of
  is-unordered e = rw e

  pub is-ordered : w / 256 ≡ 2 → type_of w v ≡ Ordered (numbering_by (w % 256 / 4)) (style_by (w % 256 % 4)) v
  unfolding type_of
  is-ordered e = rw e

  pub is-task : w / 256 ≡ 3 → type_of w v ≡ Task (w % 256)
  unfolding type_of
  is-task e = rw e

  pub is-description : w / 256 ≡ 4 → type_of w v ≡ Description
  unfolding type_of
  is-description e = rw e

  pub is-nothing : (w / 256 ≡ 1 → ⊥) → (w / 256 ≡ 2 → ⊥) → (w / 256 ≡ 3 → ⊥) → (w / 256 ≡ 4 → ⊥) → type_of w v ≡ Nothing
  unfolding type_of
  is-nothing a b c d = rw (ne_eqb (w / 256) 1 a, ne_eqb (w / 256) 2 b, ne_eqb (w / 256) 3 c, ne_eqb (w / 256) 4 d)

-- the type that was stored is the type that is read: a bullet is a byte, and every other detail is below 256
pub type-back : (m : Marker) → type_detail m < 256 → type_of (type_word m) (type_value m) ≡ m
unfolding type_of
type-back Nothing h = refl
type-back (Unordered b) h =
    let d : (1 * 256 + b) / 256 ≡ 1 = omega arith in
    let r : (1 * 256 + b) % 256 ≡ b = omega arith in
    is-unordered (1 * 256 + b) 0 d ∙ ap Unordered r
type-back (Ordered n s v) h =
    let a = num-small n in
    let b = style-small s in
    let d : (2 * 256 + (num_of n * 4 + style_num s)) / 256 ≡ 2 = omega arith in
    let x : (2 * 256 + (num_of n * 4 + style_num s)) % 256 / 4 ≡ num_of n = omega arith in
    let y : (2 * 256 + (num_of n * 4 + style_num s)) % 256 % 4 ≡ style_num s = omega arith in
    is-ordered (2 * 256 + (num_of n * 4 + style_num s)) v d
    ∙ ap (λ (k : Numbering). Ordered k (style_by ((2 * 256 + (num_of n * 4 + style_num s)) % 256 % 4)) v) (ap numbering_by x ∙ numbering-back n)
    ∙ ap (λ (k : Style). Ordered n k v) (ap style_by y ∙ style-back s)
type-back (Task b) h =
    let d : (3 * 256 + b) / 256 ≡ 3 = omega arith in
    let r : (3 * 256 + b) % 256 ≡ b = omega arith in
    is-task (3 * 256 + b) 0 d ∙ ap Task r
type-back Description h = refl

module _ (a b : Marker) (x y : ℕ) (p : x ≡ type_word a) (q : y ≡ type_word b) where
  pub other_word : (x ≡ y → ⊥) → false ≡ same_type a b
  other_word n = sym (ap (λ (t : Bool). both t (eqb (type_value a) (type_value b))) (ne_eqb (type_word a) (type_word b) (λ z. n (p ∙ z ∙ sym q))))

  pub same_word : x ≡ y → (u w : ℕ) → u ≡ type_value a → w ≡ type_value b → eqb u w ≡ same_type a b
  same_word e u w r s = rw (r, s) (sym (ap (λ (t : Bool). both t (eqb (type_value a) (type_value b))) (eq-eqb (type_word a) (type_word b) (sym p ∙ e ∙ q))))

-- ---- the stack of open lists
abbrev pub at_lists : ℕ → St → St
at_lists n s = record { words = s.words; depth = s.depth; lists = n; sections = s.sections; attr = s.attr; blank = s.blank; loose = s.loose; spare = s.spare; looks = s.looks; at = s.at; number = s.number }

pub list-words : (l : List ℕ) (i : ℕ) (o : OpenList) (a b c d : ℕ) → a ≡ type_word o.start → b ≡ type_value o.start → c ≡ type_word o.prev → d ≡ type_value o.prev
    → set (set (set (set (set l i a) (i + 1) b) (i + 2) c) (i + 3) d) (i + 4) o.depth ≡ sets l i (list_words o)
list-words l i o a b c d p q r s =
    let e1 : i + 1 ≡ suc i = omega arith in
    let e2 : i + 2 ≡ suc (suc i) = omega arith in
    let e3 : i + 3 ≡ suc (suc (suc i)) = omega arith in
    let e4 : i + 4 ≡ suc (suc (suc (suc i))) = omega arith in
    rw (p, q, r, s, e1, e2, e3, e4)

-- the words after n words, a list's words written behind them
push-words : (l : List ℕ) (n : ℕ) (o : OpenList) → n + 5 ≤ length l → take (n + 5) (sets l n (list_words o)) ≡ take n l ++ list_words o
push-words l n o h =
    let e : length (take n l ++ list_words o) ≡ n + 5 = length-append (take n l) (list_words o) ∙ ap (λ (k : ℕ). k + 5) (length-take-le n l (omega arith)) in
    ap (λ (r : List ℕ). take (n + 5) r) (sets-eq (list_words o) l n h) ∙ take_at (take n l ++ list_words o) _ (n + 5) e

push-room : (o : OpenList) (s : State) → length s.lst < 160 → push_list_of o s ≡ with_lst (s.lst ++ list_words o) s
unfolding push_list_of
push-room o s h = rw (lt-leb 160 (length s.lst) h)

push-full : (o : OpenList) (s : State) → 160 ≤ length s.lst → push_list_of o s ≡ refuse_of 7 s
unfolding push_list_of
push-full o s h = rw (le-leb 160 (length s.lst) h)

module _ (st : St) (ls : List ℕ) (h : st.lists * 5 ≤ length ls) (e k v : List ℕ) where
  pub view-lists : length (view st e k ls v).lst ≡ st.lists * 5
  view-lists = length-take-le (st.lists * 5) ls h

  pub push-full-view : (o : OpenList) → 32 ≤ st.lists → refuse_of 7 (view st e k ls v) ≡ push_list_of o (view st e k ls v)
  push-full-view o g = let q = view-lists in sym (push-full o (view st e k ls v) (omega arith))

  pub push-room-view : (o : OpenList) (ls' : List ℕ) → st.lists < 32 → 160 ≤ length ls → ls' ≡ sets ls (st.lists * 5) (list_words o)
      → view (at_lists (st.lists + 1) st) e k ls' v ≡ push_list_of o (view st e k ls v)
  push-room-view o ls' g r p =
      let q = view-lists in
      let n : (st.lists + 1) * 5 ≡ st.lists * 5 + 5 = omega arith in
      rw (p, n, push-words ls (st.lists * 5) o (omega arith)) (sym (push-room o (view st e k ls v) (omega arith)))

  module _ (some : 0 < st.lists) where
    last_word : length (take (st.lists * 5) ls) - 5 ≡ (st.lists - 1) * 5
    last_word = let q = view-lists in omega arith

    pub last_view : (a b : Marker) → a ≡ type_of (get_or ls ((st.lists - 1) * 5) 0) (get_or ls ((st.lists - 1) * 5 + 1) 0) → b ≡ type_of (get_or ls ((st.lists - 1) * 5 + 2) 0) (get_or ls ((st.lists - 1) * 5 + 3) 0)
        → record { start = a; prev = b; depth = get_or ls ((st.lists - 1) * 5 + 4) 0 } ≡ last_list_of (view st e k ls v)
    unfolding last_list_of
    last_view a b p r =
        let i = (st.lists - 1) * 5 in
        let n = st.lists * 5 in
        rw (p, r) (sym (rw (last_word, get_or-take n ls i 0 (omega arith), get_or-take n ls (i + 1) 0 (omega arith), get_or-take n ls (i + 2) 0 (omega arith), get_or-take n ls (i + 3) 0 (omega arith), get_or-take n ls (i + 4) 0 (omega arith))))

    pub set_view : (o : OpenList) (ls' : List ℕ) → ls' ≡ sets ls ((st.lists - 1) * 5) (list_words o) → view st e k ls' v ≡ set_list_of o (view st e k ls v)
    unfolding set_list_of
    set_view o ls' p = rw (p, last_word, take-sets (st.lists * 5) ((st.lists - 1) * 5) ls (list_words o) (omega arith))

    pub pop-view : view (at_lists (st.lists - 1) st) e k ls v ≡ pop_list_of (view st e k ls v)
    unfolding pop_list_of
    pop-view = sym (rw (last_word, take-take ((st.lists - 1) * 5) (st.lists * 5) ls (omega arith)))

-- ---- a list's Enter
pub pick_first : (b : Bool) (s t : State) → b ≡ true → s ≡ pick b s t
pick_first b s t e = sym (rw e)

pub pick_second : (b : Bool) (s t : State) → b ≡ false → t ≡ pick b s t
pick_second b s t e = sym (rw e)

pub retyped : (e : ℕ) (ty : Marker) (s t a b c : State) (x y : ℕ) → x ≡ type_detail ty → y ≡ type_value ty → t ≡ pick s.loose (patch_of (e + 4) 1 s) s
    → a ≡ patch_of (e + 5) x t → b ≡ patch_of (e + 6) (y % 4294967296) a → c ≡ patch_of (e + 7) (y / 4294967296) b → c ≡ retype_of e ty s
unfolding retype_of
retyped e ty s t a b c x y px py pt pa pb pc = rw (pc, pb, pa, pt, px, py)
