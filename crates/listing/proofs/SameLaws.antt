-- Numbers that mean the same mode have the same listing. Assumes nothing.
use Rattle.std.proofs.Common.{◌≡◌, ℕ, ◌+◌, Bool, true, false, List, [], ◌∷◌, length, eqb, refl}
use Rattle.classes.specs.Choice.{pick}
use Rattle.events.specs.Pack.{all_of}
use Rattle.events.specs.declared.Event.{Event}
use Rattle.listing.specs.Listing.{full, left_out, line_in, lines_in, fit_of, list_of, listed_of, page_text, page_of, paged_of}
use Rattle.listing.specs.Modes.{mode_num, mode_of}
use Rattle.listing.specs.declared.Mode.TheVariants.{Short, Full}

pub mode-same : (mode : ℕ) → eqb (mode_num (mode_of mode)) full ≡ eqb mode full
mode-same mode = by_test (eqb mode full)
  where
    by_test : (b : Bool) → eqb (mode_num (pick b Full Short)) full ≡ b
    by_test true = refl
    by_test false = refl

module _ (m k : ℕ) (e : eqb m full ≡ eqb k full) where
  line-same : (x : Event) → line_in m x ≡ line_in k x
  unfolding line_in left_out
  line-same x = rw e

  pub lines-same : (xs : List Event) → lines_in m xs ≡ lines_in k xs
  unfolding lines_in
  lines-same [] = refl
  lines-same (x ∷ xs) = rw (line-same x, lines-same xs)

  fit-same : (room : ℕ) (xs : List Event) (i size : ℕ) → fit_of m room xs i size ≡ fit_of k room xs i size
  unfolding fit_of
  fit-same room [] i size = refl
  fit-same room (x ∷ xs) i size = rw (line-same x, fit-same room xs (i + 1) (size + length (line_in k x)))

  pub list-same : (words : List ℕ) (room : ℕ) → list_of m words room ≡ list_of k words room
  unfolding list_of
  list-same words room = rw (fit-same room (all_of words) 0 0)

  pub listed-same : (words out : List ℕ) → listed_of m words out ≡ listed_of k words out
  unfolding listed_of
  listed-same words out = rw (list-same words (length out), lines-same (all_of words))

  pub page-same : (number position looks : ℕ) (words : List ℕ) (room : ℕ) → page_of m number position looks words room ≡ page_of k number position looks words room
  unfolding page_of
  page-same number position looks words room = rw (list-same words room)

  pub paged-same : (number position looks : ℕ) (words out : List ℕ) → paged_of m number position looks words out ≡ paged_of k number position looks words out
  unfolding paged_of page_text
  paged-same number position looks words out = rw (page-same number position looks words (length out), lines-same (all_of words))
