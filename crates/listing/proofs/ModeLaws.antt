-- What a mode leaves out, and what the two listings have of each other. Assumes nothing.
use Prim.Native.Nat.{ℕ, ◌+◌, ◌≤◌}
use mathlib.Core.Path.{◌≡◌, refl, sym, ap, subst, ◌∙◌}
use mathlib.Core.Bool.{Bool, true, false, not}
use mathlib.Core.List.{List, [], ◌∷◌, ◌++◌}
use native.Mathlib.Nat.{add-zero}
use native.Mathlib.Omega.{arith}
use lib.Dec.{eqb, ltb}
use lib.ListN.{length}
use lib.Seq.{sets}
use borrow.Author.Tests.{eq-eqb, ne_eqb, le-ltb, ltb-false}
use Rattle.classes.specs.Choice.{pick, both}
use Rattle.events.specs.Names.{atom_role, blankline_atom}
use Rattle.events.specs.Pack.{all_of}
use Rattle.events.specs.declared.Event.{Event}
use Rattle.records.specs.Records.{moved, write_of}
use Rattle.records.specs.Moved.{Moved}
use Rattle.std.specs.List.{flat_map}
use Rattle.entries.specs.Entries.{line_of, lines_of}
use Rattle.entries.proofs.EntryLaws.{line-short}
use Rattle.listing.specs.Listing.{full, is_blank, left_out, line_in, lines_in, without_blank, boundless, fit_of, list_of}

-- ---- a line
module _ (mode : ℕ) (x : Event) where
  out-full : mode ≡ full → false ≡ left_out mode x
  unfolding left_out
  out-full e = rw (eq-eqb mode full e)

  pub line-out : left_out mode x ≡ true → line_in mode x ≡ []
  unfolding line_in
  line-out e = rw e

  pub line_on : left_out mode x ≡ false → line_in mode x ≡ line_of x
  unfolding line_in
  line_on e = rw e

  pub line_in-short : length (line_in mode x) ≤ 144
  line_in-short = by-out (left_out mode x) refl
    where
      by-out : (b : Bool) → left_out mode x ≡ b → length (line_in mode x) ≤ 144
      by-out true e = omega (arith, ap length (line-out e))
      by-out false e = omega (arith, ap length (line_on e), line-short x)

-- the lines of all events, one by one
pub lines-each : (mode : ℕ) (xs : List Event) → flat_map (line_in mode) xs ≡ lines_in mode xs
unfolding lines_in
lines-each mode [] = refl
lines-each mode (x ∷ xs) = ap (λ (l : List ℕ). line_in mode x ++ l) (lines-each mode xs)

-- ---- the two listings
-- the full one has the line of every event
pub lines-full : (xs : List Event) → lines_in full xs ≡ lines_of xs
unfolding lines_in lines_of
lines-full [] = refl
lines-full (x ∷ xs) = rw (line_on full x (sym (out-full full x refl)), lines-full xs)

-- the short one is the full listing of the events without the blank lines
by-blank : (b : Bool) (x : Event) (lines : List ℕ) (rest : List Event) → lines ≡ lines_of rest → pick b [] (line_of x) ++ lines ≡ lines_of (pick b rest (x ∷ rest))
unfolding lines_of
by-blank true x lines rest e = e
by-blank false x lines rest e = ap (λ (l : List ℕ). line_of x ++ l) e

pub lines-short : (mode : ℕ) → (mode ≡ full → ⊥) → (xs : List Event) → lines_in mode xs ≡ lines_of (without_blank xs)
unfolding lines_in lines_of left_out line_in without_blank
lines-short mode h [] = refl
lines-short mode h (x ∷ xs) = rw (ne_eqb mode full h) (by-blank (is_blank x) x (lines_in mode xs) (without_blank xs) (lines-short mode h xs))

-- a blank line needs no room in the short listing
blank-fits : (mode room : ℕ) (x : Event) (xs : List Event) (i size : ℕ) → (mode ≡ full → ⊥) → is_blank x ≡ true → size ≤ room
    → fit_of mode room (x ∷ xs) i size ≡ fit_of mode room xs (i + 1) size
unfolding fit_of left_out
blank-fits mode room x xs i size h e g =
    let o : left_out mode x ≡ true = rw (ne_eqb mode full h, e) in
    rw (line-out mode x o, add-zero size, le-ltb room size g)

-- so where there is no room the event is no blank line
pub record Full (xs : List Event) (i : ℕ) (m : Moved) : Type 0 where
  pub before : List Event
  pub event : Event
  pub behind : List Event
  pub all : xs ≡ before ++ (event ∷ behind)
  pub place : m.position ≡ i + length before
  pub shown : is_blank event ≡ false

full-on : (x : Event) (xs : List Event) (i : ℕ) (m : Moved) → Full xs (i + 1) m → Full (x ∷ xs) i m
full-on x xs i m f = record {
  before = x ∷ f.before;
  event = f.event;
  behind = f.behind;
  all = ap (λ (l : List Event). x ∷ l) f.all;
  place = omega (arith, f.place);
  shown = f.shown;
}

fit-full : (mode room : ℕ) (xs : List Event) (i size : ℕ) → (mode ≡ full → ⊥) → size ≤ room → (fit_of mode room xs i size).number ≡ 8 → Full xs i (fit_of mode room xs i size)
unfolding fit_of
fit-full mode room [] i size h g e = absurd (omega (arith, e))
fit-full mode room (x ∷ xs) i size h g e = by-blank (is_blank x) refl (λ k l. fit-full mode room xs (i + 1) k h l)
  where
    more : ℕ
    more = size + length (line_in mode x)

    by-room : (b : Bool) → ltb room more ≡ b → is_blank x ≡ false → ((k : ℕ) → k ≤ room → (fit_of mode room xs (i + 1) k).number ≡ 8 → Full xs (i + 1) (fit_of mode room xs (i + 1) k))
        → (pick b (moved 8 i 0) (fit_of mode room xs (i + 1) more)).number ≡ 8 → Full (x ∷ xs) i (pick b (moved 8 i 0) (fit_of mode room xs (i + 1) more))
    by-room true p q f z = record { before = []; event = x; behind = xs; all = refl; place = omega arith; shown = q }
    by-room false p q f z = full-on x xs i _ (f more (ltb-false room more p) z)

    by-blank : (b : Bool) → is_blank x ≡ b → ((k : ℕ) → k ≤ room → (fit_of mode room xs (i + 1) k).number ≡ 8 → Full xs (i + 1) (fit_of mode room xs (i + 1) k))
        → Full (x ∷ xs) i (fit_of mode room (x ∷ xs) i size)
    by-blank true p f =
        let q = blank-fits mode room x xs i size h p g in
        subst (λ (m : Moved). Full (x ∷ xs) i m) (sym q) (full-on x xs i _ (f size g (ap (λ (m : Moved). m.number) (sym q) ∙ e)))
    by-blank false p f = by-room (ltb room more) refl p f e

-- of the listing of events that the writer would take
pub blank-never-refused : (mode : ℕ) (words : List ℕ) (room : ℕ) → (mode ≡ full → ⊥) → (write_of words boundless).number ≡ 0 → (list_of mode words room).number ≡ 8
    → Full (all_of words) 0 (list_of mode words room)
unfolding list_of
blank-never-refused mode words room h z e =
    let q : list_of mode words room ≡ fit_of mode room (all_of words) 0 0 = rw (eq-eqb (write_of words boundless).number 0 z) in
    subst (λ (m : Moved). Full (all_of words) 0 m) (sym q) (fit-full mode room (all_of words) 0 0 h (omega arith) (ap (λ (m : Moved). m.number) (sym q) ∙ e))
