-- The round trips (RULES N15): what is written reads back, what is read is written again. Assumes nothing.
use Prim.Native.Nat.{ℕ, zero, ◌-◌, ◌*◌, ◌/◌, ◌≤◌}
use mathlib.Core.Path.{◌≡◌, sym, ap, ◌∙◌, subst}
use mathlib.Core.List.{List, ◌++◌}
use lib.ListN.{length, take, drop, replicate}
use Rattle.events.specs.Events.{width}
use Rattle.events.specs.Pack.{all_of, pack_of, live_in}
use Rattle.events.proofs.PackLaws.{Below}
use Rattle.nests.specs.Nesting.{outside}
use Rattle.records.specs.Records.{moved, stream_of, stored_of, write_of, written_of, read_of, unpacked_of}
use Rattle.records.proofs.TripLaws.{fair-reads, fair-stored, fair-writes, fair-image, written-front, written-pack, unpacked-front, unpacked-stream}
use Rattle.records.proofs.TripLaws.{write-fair, write-whole, write-told, write-fits, write-bodies, read-fair, read_same, read_told}

-- the records of the events of words, without the Stale ones
abbrev pub image_of : List ℕ → List ℕ
image_of words = stream_of (live_in words)

-- ---- 1. a written stream reads back as the same events without the Stale ones
-- (every word is below 4294967296, every byte below 256)
pub written-reads : (words : List ℕ) (room lent : ℕ) → Below 4294967296 words → (write_of words room).number ≡ 0 → length (live_in words) ≤ lent / width
    → (write_of words room ≡ moved 0 (length (all_of words)) (length (image_of words)))
    × (read_of (image_of words) lent ≡ moved 0 (length (image_of words)) (length (live_in words)))
    × (stored_of zero (image_of words) ≡ live_in words)
written-reads words room lent b z h =
    let f = write-fair words room z in
    let y = write-bodies words b in
    (write-told words room z, fair-reads (live_in words) lent y f h, fair-stored (live_in words) outside y f)

-- in buffers: the reader gets as many of the writer's bytes as the writer told; it reads them all, and as many events as were written
pub written-reads-buffers : (words bytes ws : List ℕ) → Below 4294967296 words → (write_of words (length bytes)).number ≡ 0 → length (live_in words) ≤ length ws / width
    → let stream = take (write_of words (length bytes)).count (written_of words bytes) in
    (write_of words (length bytes) ≡ moved 0 (length (all_of words)) (length (image_of words)))
    × (stream ≡ image_of words)
    × (read_of stream (length ws) ≡ moved 0 (length (image_of words)) (length (live_in words)))
    × (unpacked_of stream ws ≡ pack_of (live_in words) ++ replicate (length ws - width * length (live_in words)) 0)
written-reads-buffers words bytes ws b z h =
    let t = written-reads words (length bytes) (length ws) b z h in
    let s = written-front words bytes z in
    let u = unpacked-stream (live_in words) ws (write-bodies words b) (write-fair words (length bytes) z) h in
    (t.0, s, ap (λ (r : List ℕ). read_of r (length ws)) s ∙ t.1, ap (λ (r : List ℕ). unpacked_of r ws) s ∙ u)

-- no word is left out, and no more bytes are told than were lent
pub written-whole : (words : List ℕ) (room : ℕ) → (write_of words room).number ≡ 0 → (pack_of (all_of words) ≡ words) × ((write_of words room).count ≤ room)
written-whole words room z = (write-whole words room z, rw (write-told words room z) (write-fits words room z))

-- ---- 2. a stream that the reader accepts is written again as the same bytes
pub read-writes : (bytes : List ℕ) (lent room : ℕ) → Below 256 bytes → (read_of bytes lent).number ≡ 0 → length bytes ≤ room
    → (read_of bytes lent ≡ moved 0 (length bytes) (length (stored_of zero bytes)))
    × (write_of (pack_of (stored_of zero bytes)) room ≡ moved 0 (length (stored_of zero bytes)) (length bytes))
    × (image_of (pack_of (stored_of zero bytes)) ≡ bytes)
read-writes bytes lent room b z h =
    let xs = stored_of zero bytes in
    let f = read-fair bytes lent b z in
    let s = read_same bytes lent b z in
    let w = fair-writes xs room f (subst (λ (l : List ℕ). length l ≤ room) (sym s) h) in
    (read_told bytes lent b z, w ∙ ap (λ (l : List ℕ). moved 0 (length xs) (length l)) s, fair-image xs f ∙ s)

-- in buffers: the writer gets as many of the reader's events as the reader told; it takes them all, and writes as many bytes as were read
pub read-writes-buffers : (bytes ws out : List ℕ) → Below 256 bytes → (read_of bytes (length ws)).number ≡ 0 → length bytes ≤ length out
    → let words = take (width * (read_of bytes (length ws)).count) (unpacked_of bytes ws) in
    (read_of bytes (length ws) ≡ moved 0 (length bytes) (length (stored_of zero bytes)))
    × (words ≡ pack_of (stored_of zero bytes))
    × (write_of words (length out) ≡ moved 0 (length (stored_of zero bytes)) (length bytes))
    × (written_of words out ≡ bytes ++ drop (length bytes) out)
read-writes-buffers bytes ws out b z h =
    let t = read-writes bytes (length ws) (length out) b z h in
    let f = read-fair bytes (length ws) b z in
    let s = read_same bytes (length ws) b z in
    let u = unpacked-front bytes ws b z in
    let w = written-pack (stored_of zero bytes) out f (subst (λ (l : List ℕ). length l ≤ length out) (sym s) h) in
    (t.0, u, ap (λ (r : List ℕ). write_of r (length out)) u ∙ t.1, ap (λ (r : List ℕ). written_of r out) u ∙ w ∙ ap (λ (l : List ℕ). l ++ drop (length l) out) s)

-- ---- 3. so each event list has one image
pub one-image : (a b : List ℕ) (m n : ℕ) → Below 256 a → Below 256 b → (read_of a m).number ≡ 0 → (read_of b n).number ≡ 0 → stored_of zero a ≡ stored_of zero b → a ≡ b
one-image a b m n h k p q e = sym (read_same a m h p) ∙ ap stream_of e ∙ read_same b n k q
