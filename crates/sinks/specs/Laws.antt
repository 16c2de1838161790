-- What a place for bytes promises: pieces put one after another are one piece. Assumes nothing.
use Rattle.std.specs.Prelude.{List, [], ◌++◌, ℕ, ◌+◌, ◌≤◌, length}

pub record SinkLaws {S : Type 0} (fits : S → ℕ → Type 0) (took : S → List ℕ → S → Type 0) : Type 0 where
  pub none : (x : S) → took x [] x
  pub more : (x y z : S) (a b : List ℕ) → took x a y → took y b z → took x (a ++ b) z
  pub left : (x y : S) (a : List ℕ) (n : ℕ) → took x a y → fits x (length a + n) → fits y n
  pub less : (x : S) (m n : ℕ) → fits x n → m ≤ n → fits x m
