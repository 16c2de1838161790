-- The first line found and taken off: one law for each return. Assumes nothing.
use Prim.Native.Nat.{ℕ, ◌-◌}
use mathlib.Core.Path.{◌≡◌, sym, ◌∙◌}
use mathlib.Core.Bool.{Bool, true, false}
use mathlib.Core.List.{List}
use native.Mathlib.Omega.{arith}
use lib.ListN.{length, drop, length-drop}
use lib.Seq.{take_all}
use Rattle.trim.specs.Trim.{part_of}
use Rattle.equals.specs.Same.{same}
use Rattle.listing.specs.Listing.{short, full}
use Rattle.heads.specs.Heads.{word, line, asks_full, mode_of, text_of}

module _ (file : List ℕ) where
  pub asks-word : same file word ≡ true → true ≡ asks_full file
  unfolding asks_full
  asks-word e = rw e

  pub asks-line : same file word ≡ false → (r : Bool) (front : List ℕ) → front ≡ part_of file 0 5 → r ≡ same front line → r ≡ asks_full file
  unfolding asks_full part_of
  asks-line e r front p q = q ∙ rw (e, p)

  pub mode-full : asks_full file ≡ true → full ≡ mode_of file
  unfolding mode_of
  mode-full e = rw e

  pub mode-short : asks_full file ≡ false → short ≡ mode_of file
  unfolding mode_of
  mode-short e = rw e

  pub text-behind : asks_full file ≡ true → (r : List ℕ) → r ≡ part_of file 5 (length file) → r ≡ text_of file
  unfolding text_of part_of
  text-behind e r p = p ∙ take_all (length file - 5) (drop 5 file) (omega (arith, length-drop 5 file)) ∙ sym (rw e)

  pub text-whole : asks_full file ≡ false → file ≡ text_of file
  unfolding text_of
  text-whole e = rw e
