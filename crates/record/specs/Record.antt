-- An event's record in bytes (RULES N1 to N3). The laws are over the bytes o of an offset. Assumes nothing.
use Rattle.std.specs.Prelude.{Bool, List, [], ◌∷◌, ◌++◌, ℕ, zero, suc, ◌+◌, ◌*◌, ◌/◌, ◌%◌, leb, length, get_or, take, drop, bit_or}
use Rattle.std.specs.List.{flat_map}
use Rattle.events.specs.declared.Event.{Event}
use Rattle.fields.specs.Fields.{offset, field_of, width_of, size_of}

-- the role in the top three bits, the node in the low five (N2)
abbrev pub kind_byte : ℕ → ℕ → ℕ
kind_byte role node = role * 32 + node

abbrev pub role_of : ℕ → ℕ
role_of kind = kind / 32

abbrev pub node_of : ℕ → ℕ
node_of kind = kind % 32

-- a number in so many bytes, the lowest first, and back (N1)
unfoldable pub bytes_of : ℕ → ℕ → List ℕ
bytes_of zero x = []
bytes_of (suc w) x = x % 256 ∷ bytes_of w (x / 256)

unfoldable pub value_of : List ℕ → ℕ
value_of [] = 0
value_of (b ∷ bs) = b + 256 * value_of bs

-- a number with one byte more below it, in 32 bits
abbrev pub with_byte : ℕ → ℕ → ℕ
with_byte x b = bit_or (x * 256 % 4294967296) b

-- the number in w bytes from place i on
abbrev pub value_at : List ℕ → ℕ → ℕ → ℕ
value_at bs i w = value_of (take w (drop i bs))

-- the bytes of body word i (N3)
abbrev pub body_width : ℕ → ℕ → ℕ → ℕ → ℕ
body_width o role node i = width_of o (field_of role node i)

-- kind, start, end, body (N1)
unfoldable pub record_of : ℕ → Event → List ℕ
record_of o x =
    let w = body_width o x.role x.node in
    (kind_byte x.role x.node ∷ []) ++ bytes_of o x.start ++ bytes_of o x.end
    ++ bytes_of (w 0) x.a ++ bytes_of (w 1) x.b ++ bytes_of (w 2) x.c ++ bytes_of (w 3) x.d

-- the bytes of all body words, each with its field, as the code goes through them
abbrev pub body_bytes : List (ℕ × ℕ) → List ℕ
body_bytes ps = flat_map (λ p. bytes_of (width_of offset p.0) p.1) ps

-- the event of the record that bytes start with (N1)
unfoldable pub event_of : ℕ → List ℕ → Event
event_of o bs =
    let role = role_of (get_or bs 0 0) in
    let node = node_of (get_or bs 0 0) in
    let w = body_width o role node in
    let body = 1 + o + o in
    record {
      role = role;
      node = node;
      start = value_at bs 1 o;
      end = value_at bs (1 + o) o;
      a = value_at bs body (w 0);
      b = value_at bs (body + w 0) (w 1);
      c = value_at bs (body + w 0 + w 1) (w 2);
      d = value_at bs (body + w 0 + w 1 + w 2) (w 3);
    }

-- the event of the record at place i, its bytes by its kind, and whether it stands whole (N3, N11)
abbrev pub record_in : List ℕ → ℕ → Event
record_in bs i = event_of offset (drop i bs)

abbrev pub kind_size : ℕ → ℕ → ℕ
kind_size o kind = size_of o (role_of kind) (node_of kind)

abbrev pub record_fits : List ℕ → ℕ → Bool
record_fits bs i = leb (i + kind_size offset (get_or bs i 0)) (length bs)
