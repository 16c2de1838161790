-- What a test of an event answers. Assumes nothing.
use Rattle.std.specs.Prelude.{◌≡◌, ℕ, Result, Ok, Err}
use Rattle.refusals.specs.Numbers.{number_of}
use Rattle.refusals.specs.declared.Refused.{Refused}

-- the answer's fault, at a place, where it has one
abbrev pub IsFault : Result (Unit {0}) Refused → ℕ → ℕ → Type 0
IsFault (Ok u) fault at = fault ≡ 0
IsFault (Err r) fault at = (fault ≡ number_of r.why) × (r.at ≡ at)
