-- What a caller may count on: bytes are held whole where there is room for them and 64 more, and what is held never exceeds the room. Assumes nothing.
use Prim.Native.Nat.{ℕ, zero, suc, ◌+◌, ◌-◌, ◌/◌, ◌≤◌}
use mathlib.Core.Path.{◌≡◌, refl, sym, ap, ◌∙◌}
use mathlib.Core.Bool.{Bool, true, false}
use mathlib.Core.List.{List, [], ◌++◌, append_assoc}
use native.Mathlib.Omega.{arith}
use lib.Dec.{leb}
use lib.ListN.{length, take, drop, length-append, length-drop, length-take, take-append-drop}
use borrow.Author.Tests.{le-leb, leb-true}
use Rattle.std.specs.Prelude.{if◌then◌else◌}
use Rattle.print.specs.Held.{Held, kept, after_piece, after_pieces, after_put}

piece-whole : (h : Held) (s : List ℕ) → length s ≤ 64 → length h.bytes + 64 ≤ h.room → after_piece h s ≡ record h { bytes = h.bytes ++ s }
piece-whole h s l free = rw (le-leb 64 (h.room - length h.bytes) (omega (arith, free)), le-leb (length h.bytes + length s) h.room (omega (arith, l, free))) refl

pieces-whole : (n : ℕ) (h : Held) (s : List ℕ) → n ≡ (length s - 1) / 64 → length h.bytes + length s + 64 ≤ h.room → after_pieces n h s ≡ record h { bytes = h.bytes ++ s }
pieces-whole zero h s e free = piece-whole h s (omega (arith, e)) (omega (arith, free))
pieces-whole (suc n) h s e free =
    let left : length (drop 64 s) ≡ length s - 64 = length-drop 64 s in
    let count : n ≡ (length (drop 64 s) - 1) / 64 = omega (arith, e, left) in
    let front : length (take 64 s) ≤ 64 = omega (arith, length-take 64 s) in
    let more : length s ≡ length (take 64 s) + length (drop 64 s) = sym (ap length (take-append-drop 64 s)) ∙ length-append (take 64 s) (drop 64 s) in
    let size : length (h.bytes ++ take 64 s) ≡ length h.bytes + length (take 64 s) = length-append h.bytes (take 64 s) in
    ap (λ (x : Held). after_pieces n x (drop 64 s)) (piece-whole h (take 64 s) front (omega (arith, free)))
    ∙ pieces-whole n (record h { bytes = h.bytes ++ take 64 s }) (drop 64 s) count (omega (arith, free, more, size))
    ∙ ap (λ (l : List ℕ). record h { bytes = l }) (append_assoc h.bytes (take 64 s) (drop 64 s) ∙ ap (λ (l : List ℕ). h.bytes ++ l) (take-append-drop 64 s))

-- where there is room for the bytes and for 64 more, they stand behind those that are held
pub put-whole : (h : Held) (s : List ℕ) → length h.bytes + length s + 64 ≤ h.room → after_put h s ≡ record h { bytes = h.bytes ++ s }
put-whole h s free = pieces-whole ((length s - 1) / 64) h s refl free

-- the room stays as it was, and what is held fits
pub record Within (room : ℕ) (h : Held) : Type 0 where
  pub same : h.room ≡ room
  pub fits : length h.bytes ≤ room

piece-within : (h : Held) (s : List ℕ) → Within h.room (after_piece h s)
piece-within h s = by-test (leb (length (kept h) + length s) h.room) refl
  where
    by-test : (t : Bool) → leb (length (kept h) + length s) h.room ≡ t → Within h.room (record h { bytes = (if t then kept h ++ s else []) })
    by-test true e = record { same = refl; fits = omega (arith, leb-true (length (kept h) + length s) h.room e, length-append (kept h) s) }
    by-test false e = record { same = refl; fits = omega arith }

pieces-within : (n : ℕ) (h : Held) (s : List ℕ) → Within h.room (after_pieces n h s)
pieces-within zero h s = piece-within h s
pieces-within (suc n) h s = pieces-within n (after_piece h (take 64 s)) (drop 64 s)

pub put-within : (h : Held) (s : List ℕ) → Within h.room (after_put h s)
put-within h s = pieces-within ((length s - 1) / 64) h s
