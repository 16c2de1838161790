-- Each answer that the definitions of `write`, `read`, `list` and `page` give is what some result of the code says. Assumes nothing.
use mathlib.Core.Path.{◌≡◌, refl}
use mathlib.Core.Bool.{Bool, true, false, not}
use mathlib.Core.List.{List, [], ◌∷◌}
use Prim.Native.Nat.{ℕ, zero, suc, ◌+◌, ◌-◌, ◌/◌, ◌%◌}
use lib.Dec.{eqb, leb, ltb}
use lib.ListN.{length}
use Rattle.std.specs.Prelude.{Result, Ok, Err}
use Rattle.classes.specs.Choice.{pick, both}
use Rattle.refusals.specs.Numbers.{number_of}
use Rattle.refusals.specs.declared.Refusal.{Refusal}
use Rattle.refusals.specs.declared.Refusal.TheVariants.{EventsFull, BytesFull, CutShort, NotListed, OutOfRange, BadNesting}
use Rattle.refusals.specs.declared.Refused.{Refused}
use Rattle.events.specs.Events.{width}
use Rattle.events.specs.Names.{largest}
use Rattle.events.specs.Pack.{is_stale, all_of}
use Rattle.events.specs.declared.Event.{Event}
use Rattle.fields.specs.Fields.{offset, is_listed, is_ranged, size_of}
use Rattle.record.specs.Record.{role_of, node_of, kind_size, event_of}
use Rattle.nests.specs.Nesting.{Nesting, is_nested, outside, after_of, fault_of}
use Rattle.records.specs.Moved.{Moved, told}
use Rattle.records.specs.Records.{moved, check_of, write_of, take_of, read_of}
use Rattle.records.specs.declared.Done.{Done}
use Rattle.entries.specs.Entries.{looks_line, refused_line}
use Rattle.listing.specs.Listing.{boundless, line_in, fit_of, list_of, last_of, page_of}

-- some result says m
abbrev pub Told : Moved → Type 0
Told m = (r : Result Done Refused) × (told r ≡ m)

done : (p c : ℕ) → Told (moved 0 p c)
done p c = (Ok (record { taken = p; given = c }), refl)

refused : (r : Refusal) (p : ℕ) → Told (moved (number_of r) p 0)
refused r p = (Err (record { why = r; at = p }), refl)

either_way : (c : Bool) {m n : Moved} → Told m → Told n → Told (pick c m n)
either_way true p q = p
either_way false p q = q

-- what may be wrong with an event
fault-told : (n : Nesting) (x : Event) (p : ℕ) → Told (moved (fault_of n x) p 0)
unfolding fault_of
fault-told n x p = by-test (both (eqb x.role 0) (eqb x.node 0)) (not (is_listed x.role x.node)) (not (is_ranged largest x)) (not (is_nested n x))
  where
    by-test : (a b c d : Bool) → Told (moved (pick {A = ℕ} a 11 (pick b 10 (pick c 11 (pick d 12 0)))) p 0)
    by-test true b c d = refused OutOfRange p
    by-test false true c d = refused NotListed p
    by-test false false true d = refused OutOfRange p
    by-test false false false true = refused BadNesting p
    by-test false false false false = done p 0

-- ---- the writer
check-told : (room spare : ℕ) (xs : List Event) (i : ℕ) (n : Nesting) (size : ℕ) → Told (check_of room spare xs i n size)
unfolding check_of
check-told room spare [] i n size = either_way (both n.done (eqb spare 0)) (done i size) (refused CutShort i)
check-told room spare (x ∷ xs) i n size =
    let more = size + size_of offset x.role x.node in
    either_way (is_stale x) (check-told room spare xs (i + 1) n size)
    (either_way (not (eqb (fault_of n x) 0)) (fault-told n x i)
    (either_way (ltb room more) (refused BytesFull i)
    (check-told room spare xs (i + 1) (after_of n x) more)))

pub write-told : (words : List ℕ) (room : ℕ) → Told (write_of words room)
unfolding write_of
write-told words room = check-told room (length words % width) (all_of words) 0 outside 0

-- ---- the reader
take-told : (room k : ℕ) (bytes : List ℕ) (p : ℕ) (n : Nesting) (e : ℕ) → Told (take_of room k bytes p n e)
unfolding take_of
take-told room k [] p n e = either_way n.done (done p e) (refused CutShort p)
take-told room (suc k) (b ∷ bs) p n e = take-told room k bs (p + 1) n e
take-told room zero (b ∷ bs) p n e =
    let x = event_of offset (b ∷ bs) in
    either_way (not (is_listed (role_of b) (node_of b))) (refused NotListed p)
    (either_way (ltb (length (b ∷ bs)) (kind_size offset b)) (refused CutShort p)
    (either_way (not (eqb (fault_of n x) 0)) (fault-told n x p)
    (either_way (leb room e) (refused EventsFull p)
    (take-told room (kind_size offset b - 1) bs (p + 1) (after_of n x) (e + 1)))))

pub read-told : (bytes : List ℕ) (lent : ℕ) → Told (read_of bytes lent)
unfolding read_of
read-told bytes lent = take-told (lent / width) zero bytes 0 outside 0

-- ---- the listing
fit-told : (mode room : ℕ) (xs : List Event) (i size : ℕ) → Told (fit_of mode room xs i size)
unfolding fit_of
fit-told mode room [] i size = done i size
fit-told mode room (x ∷ xs) i size =
    let more = size + length (line_in mode x) in
    either_way (ltb room more) (refused BytesFull i) (fit-told mode room xs (i + 1) more)

pub list-told : (mode : ℕ) (words : List ℕ) (room : ℕ) → Told (list_of mode words room)
unfolding list_of
list-told mode words room = either_way (eqb (write_of words boundless).number 0) (fit-told mode room (all_of words) 0 0) (write-told words boundless)

last-told : (room looks : ℕ) (a : Moved) → Told a → Told (last_of room looks a)
unfolding last_of
last-told room looks a t =
    let more = a.count + length (looks_line looks) in
    either_way (not (eqb a.number 0)) t (either_way (ltb room more) (refused BytesFull a.position) (done a.position more))

pub page-told : (mode number position looks : ℕ) (words : List ℕ) (room : ℕ) → Told (page_of mode number position looks words room)
unfolding page_of
page-told mode number position looks words room =
    let size = length (refused_line number position) in
    either_way (eqb number 0) (last-told room looks _ (list-told mode words room)) (either_way (ltb room size) (refused BytesFull 0) (done 0 size))
