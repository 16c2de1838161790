-- The looks of a block, refusals 5, 3 and 4, and the attributes after it. Assumes nothing.
use Prim.Native.Nat.{ℕ, ◌+◌, ◌-◌, ◌≤◌, ◌<◌}
use mathlib.Core.Path.{◌≡◌, sym, ◌∙◌}
use mathlib.Core.Bool.{Bool, true, false}
use native.Mathlib.Omega.{arith}
use lib.Dec.{eqb, leb, ltb}
use lib.ListN.{length}
use borrow.Author.Tests.{eq-eqb, ne_eqb, le-leb, lt-leb}
use Rattle.classes.specs.Choice.{both}
use Rattle.measure.specs.Continue.{kind_num, level_of}
use Rattle.events.specs.State.{State, with_attr, with_looks, with_at, refuse_of}
use Rattle.walk.specs.Fields.{is_container}
use Rattle.walk.specs.Leaf.{kept_of}
use Rattle.walk.specs.Tree.{count_of, admit_of, attr_of}
use Rattle.walk.specs.declared.Limits.{Limits}
use Rattle.walk.specs.declared.Met.{Met}

-- ---- tests of two
pub both-no : (a b : Bool) → a ≡ false → false ≡ both a b
both-no a b e = sym (rw e)

pub both_yes : (a b : Bool) → a ≡ true → b ≡ both a b
both_yes a b e = sym (rw e)

module _ (n m x : ℕ) (p : n ≡ m) (b : Bool) where
  pub other : (n ≡ x → ⊥) → false ≡ both (eqb m x) b
  other h = both-no (eqb m x) b (ne_eqb m x (λ z. h (p ∙ z)))

  pub same : n ≡ x → b ≡ both (eqb m x) b
  same h = both_yes (eqb m x) b (eq-eqb m x (sym p ∙ h))

-- ---- looks
module _ (at n : ℕ) (s : State) (h : n ≤ 18446744073709551615) where
  pub count-full : 18446744073709551615 - n < s.looks → refuse_of 7 (with_at at s) ≡ count_of at n s
  unfolding count_of
  count-full g = sym (rw (le-leb 18446744073709551616 (s.looks + n) (omega arith)))

  pub count-on : s.looks ≤ 18446744073709551615 - n → with_at at (with_looks (s.looks + n) s) ≡ count_of at n s
  unfolding count_of
  count-on g = sym (rw (lt-leb 18446744073709551616 (s.looks + n) (omega arith)))

-- ---- refusals
module _ (lim : Limits) (left : ℕ) (top : Bool) (m : Met) (s : State) where
  pub admit-high : both (eqb (kind_num m.kind) 5) (ltb 65535 (level_of m.kind)) ≡ true → refuse_of 5 s ≡ admit_of lim left top m s
  unfolding admit_of
  admit-high a = sym (rw a)

  module _ (a : both (eqb (kind_num m.kind) 5) (ltb 65535 (level_of m.kind)) ≡ false) where
    pub admit-deep : both (is_container m.kind) (eqb left 0) ≡ true → refuse_of 3 s ≡ admit_of lim left top m s
    unfolding admit_of
    admit-deep b = sym (rw (a, b))

    module _ (b : both (is_container m.kind) (eqb left 0) ≡ false) where
      pub admit-many : both (eqb (kind_num m.kind) 5) (both top (leb lim.sections (kept_of s.sec (level_of m.kind) (length s.sec)))) ≡ true → refuse_of 4 s ≡ admit_of lim left top m s
      unfolding admit_of
      admit-many c = sym (rw (a, b, c))

      pub admit-ok : both (eqb (kind_num m.kind) 5) (both top (leb lim.sections (kept_of s.sec (level_of m.kind) (length s.sec)))) ≡ false → s ≡ admit_of lim left top m s
      unfolding admit_of
      admit-ok c = sym (rw (a, b, c))

-- ---- attributes
module _ (m : Met) (at w n : ℕ) (s : State) (p : n ≡ kind_num m.kind) where
  pub attr-none : (n ≡ 2 → ⊥) → with_at at (with_attr 0 s) ≡ with_at at (attr_of m w s)
  attr-none h = sym (rw (ne_eqb (kind_num m.kind) 2 (λ z. h (p ∙ z))))

  module _ (h : n ≡ 2) where
    pub attr-old : (s.attr ≡ 0 → ⊥) → with_at at s ≡ with_at at (attr_of m w s)
    attr-old g = sym (rw (eq-eqb (kind_num m.kind) 2 (sym p ∙ h), ne_eqb s.attr 0 g))

    pub attr-new : s.attr ≡ 0 → with_at at (with_attr (w + 1) s) ≡ with_at at (attr_of m w s)
    attr-new g = sym (rw (eq-eqb (kind_num m.kind) 2 (sym p ∙ h), eq-eqb s.attr 0 g))
