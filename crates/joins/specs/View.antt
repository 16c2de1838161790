-- A text in bytes and numbers, as the code goes through the pieces: measured first, then written. Assumes nothing.
use Rattle.std.specs.Prelude.{List, [], ◌∷◌, ◌++◌, ℕ, ◌+◌, eqb, leb, length, Result, Ok, Err}
use Rattle.refusals.specs.declared.Refused.{Refused}
use Rattle.refusals.specs.declared.Refusal.TheVariants.{BytesFull}
use Rattle.classes.specs.Choice.{pick}
use Rattle.sets.specs.Layout.{Spanned}
use Rattle.joins.specs.Joins.{bytes_of}
use Rattle.joins.specs.declared.Joining.{Joining}

-- what a piece's bytes add to a text of n bytes
unfoldable pub added : List ℕ → ℕ → List ℕ → List ℕ
added glue n s = pick (eqb (length s) 0) [] (pick (eqb n 0) s (glue ++ s))

-- how long a text of n bytes is with some pieces behind it; or the first piece for which it has no room
unfoldable pub length_by : List ℕ → List ℕ → ℕ → ℕ → List Spanned → Result ℕ Refused
length_by bytes glue room n [] = Ok n
length_by bytes glue room n (p ∷ ps) =
    let k = n + length (added glue n (bytes_of bytes p)) in
    pick (leb k room) (length_by bytes glue room k ps) (Err (record { why = BytesFull; at = p.start }))

-- and what they add
unfoldable pub added_by : List ℕ → List ℕ → ℕ → List Spanned → List ℕ
added_by bytes glue n [] = []
added_by bytes glue n (p ∷ ps) = let s = added glue n (bytes_of bytes p) in s ++ added_by bytes glue (n + length s) ps

abbrev pub length_in : Joining → ℕ → List Spanned → Result ℕ Refused
length_in j n ps = length_by j.bytes.now j.glue.now j.room n ps

abbrev pub added_in : Joining → ℕ → List Spanned → List ℕ
added_in j n ps = added_by j.bytes.now j.glue.now n ps
