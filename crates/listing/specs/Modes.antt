-- The two modes as the code has them, and their numbers (RULES V11). Assumes nothing.
use Rattle.std.specs.Prelude.{ℕ, eqb}
use Rattle.classes.specs.Choice.{pick}
use Rattle.listing.specs.Listing.{short, full}
use Rattle.listing.specs.declared.Mode.{Mode}
use Rattle.listing.specs.declared.Mode.TheVariants.{Short, Full}

abbrev pub mode_num : Mode → ℕ
mode_num Short = short
mode_num Full = full

-- any number but that of the full listing means the short one
abbrev pub mode_of : ℕ → Mode
mode_of n = pick (eqb n full) Full Short
