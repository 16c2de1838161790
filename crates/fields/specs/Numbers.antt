-- The number of each field, as the definitions have it (RULES E3). Assumes nothing.
use Rattle.std.specs.Prelude.{ℕ}
use Rattle.fields.specs.declared.Field.{Field}
use Rattle.fields.specs.declared.Field.TheVariants.{Nothing, Offset, Flag, Bullet, ListType, Half, Level, Alignment}

abbrev pub field_num : Field → ℕ
field_num Nothing = 0
field_num Offset = 1
field_num Flag = 2
field_num Bullet = 3
field_num ListType = 4
field_num Half = 5
field_num Level = 6
field_num Alignment = 7

-- a body word with what it is
abbrev pub pair_num : Field × ℕ → ℕ × ℕ
pair_num p = (field_num p.0, p.1)
