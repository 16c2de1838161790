-- What steps one after the other keep of the state. Assumes nothing.
use Prim.Native.Nat.{ℕ, ◌≤◌}
use mathlib.Core.Path.{◌∙◌}
use mathlib.Core.List.{List}
use native.Mathlib.Omega.{arith}
use lib.ListN.{length}
use Rattle.events.specs.View.{Fits, Same, Kept}
use Rattle.events.specs.declared.St.{St}

pub same-on : (s a b : St) → Same s a → Same a b → Same s b
same-on s a b x y = record { depth = y.depth ∙ x.depth; lists = y.lists ∙ x.lists; sections = y.sections ∙ x.sections }

pub kept_on : (s a b : St) → Kept s a → Kept a b → Kept s b
kept_on s a b x y = record { lists = y.lists ∙ x.lists; sections = y.sections ∙ x.sections }

pub kept_same : (s a b : St) → Kept s a → Same a b → Kept s b
kept_same s a b x y = record { lists = y.lists ∙ x.lists; sections = y.sections ∙ x.sections }

pub fits-same : (a b : St) (e f k : List ℕ) → Fits a e k → b.words ≤ length f → Same a b → Fits b f k
fits-same a b e f k x w y = record { words = w; depth = omega (arith, x.depth, y.depth); room = x.room }
