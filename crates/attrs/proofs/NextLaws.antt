-- The table of next states is the definition's: the one test that is computed, and what it says of each state, class and byte. Assumes nothing.
use mathlib.Core.Path.{◌≡◌}
use mathlib.Core.List.{[]}
use Prim.Native.Nat.{ℕ, ◌<◌}
use lib.ListN.{get_or}
use Rattle.attrs.specs.Machine.{next_of, class_of, step_of}
use Rattle.attrs.proofs.MachineLaws.{next-table, Tabled, rule-by, step-by}

next-test : Tabled
unfolding next_of
next-test = tt

pub next-rule : (s c : ℕ) → s < 18 → c < 12 → (get_or (get_or next-table s []) c 0 ≡ next_of s c) × (get_or (get_or next-table s []) c 0 < 18)
next-rule = rule-by next-test

-- one step by the table, with the class that the code found
pub next-step : (s b c : ℕ) → s < 18 → (c ≡ class_of b) × (c < 12) →
    (get_or (get_or next-table s []) c 0 ≡ step_of s b) × (get_or (get_or next-table s []) c 0 < 18)
next-step = step-by next-test
