-- An answer as the definitions and C have it, and what a result says of it (RULES N13). Assumes nothing.
use Rattle.std.specs.Prelude.{ℕ, Result, Ok, Err}
use Rattle.refusals.specs.Numbers.{number_of}
use Rattle.refusals.specs.declared.Refused.{Refused}
use Rattle.records.specs.declared.Done.{Done}

-- number, position and count; where the number is 0, what was taken and what was given
pub record Moved : Type 0 where
  pub number : ℕ
  pub position : ℕ
  pub count : ℕ

abbrev pub told : Result Done Refused → Moved
told (Ok d) = record { number = 0; position = d.taken; count = d.given }
told (Err r) = record { number = number_of r.why; position = r.at; count = 0 }
