-- Bytes that are put, one piece on. Assumes nothing.
use Prim.Native.Nat.{ℕ, suc, ◌-◌, ◌/◌, ◌<◌}
use mathlib.Core.Path.{◌≡◌, ap}
use mathlib.Core.List.{List}
use native.Mathlib.Omega.{arith}
use lib.ListN.{length, take, drop, length-drop}
use Rattle.print.specs.Held.{Held, after_piece, after_pieces, after_put}

-- a whole piece with more behind it
pub put-piece : (h : Held) (s : List ℕ) → 64 < length s → after_put h s ≡ after_put (after_piece h (take 64 s)) (drop 64 s)
put-piece h s more =
    let left : length (drop 64 s) ≡ length s - 64 = length-drop 64 s in
    let count : (length s - 1) / 64 ≡ suc ((length (drop 64 s) - 1) / 64) = omega arith in
    ap (λ (n : ℕ). after_pieces n h s) count
