-- The key that an element's kind gives. Assumes nothing.
use Prim.Native.Nat.{ℕ}
use mathlib.Core.Path.{◌≡◌, refl, ◌∙◌}
use mathlib.Core.Bool.{Bool, true, false}
use mathlib.Core.List.{List}
use lib.Dec.{eqb}
use Rattle.trim.specs.Trim.{part_of}
use Rattle.sets.specs.Layout.{Listed}
use Rattle.keys.specs.Keys.{key_by, key_of, is_keyed, has_key}
use Rattle.equals.specs.Same.{same}

module _ (bytes c d : List ℕ) (x : Listed) where
  pub key-class : eqb x.kind 1 ≡ true → c ≡ key_by bytes c d x
  unfolding key_by
  key-class e = rw e refl

  module _ (n : eqb x.kind 1 ≡ false) where
    pub key-id : eqb x.kind 2 ≡ true → d ≡ key_by bytes c d x
    unfolding key_by
    key-id e = rw (n, e) refl

    pub key-other : eqb x.kind 2 ≡ false → (r : List ℕ) → r ≡ part_of bytes x.from x.to → r ≡ key_by bytes c d x
    unfolding key_by
    key-other m r e = rw (n, m) e

module _ (x : Listed) where
  pub key-comment : eqb x.kind 4 ≡ true → is_keyed x ≡ false
  unfolding is_keyed
  key-comment l = rw l

  pub keyed-is : eqb x.kind 4 ≡ false → is_keyed x ≡ true
  unfolding is_keyed
  keyed-is l = rw l

module _ (bytes key : List ℕ) (x : Listed) where
  pub has-none : is_keyed x ≡ false → false ≡ has_key bytes key x
  unfolding has_key
  has-none e = rw e

  pub has_some : is_keyed x ≡ true → (r : Bool) (k : List ℕ) → k ≡ key_of bytes x → r ≡ same k key → r ≡ has_key bytes key x
  unfolding has_key
  has_some e r k p q = q ∙ rw (e, p)
