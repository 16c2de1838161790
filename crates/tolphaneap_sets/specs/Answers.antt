-- Answers about a set as the words that another language reads (RULES J13). Assumes nothing.
use Rattle.std.specs.Prelude.{List, [], ◌∷◌, ℕ}
use Rattle.sets.specs.Opened.{Answer}

abbrev pub opened_words : Answer → List ℕ
opened_words a = a.number ∷ a.position ∷ a.count ∷ []
