-- Answers as the words that another language reads. Assumes nothing.
use Rattle.std.specs.Prelude.{List, [], ◌∷◌, ℕ}
use Rattle.parse.specs.declared.Answer.{Answer}
use Rattle.records.specs.Moved.{Moved}
use Rattle.editions.specs.declared.Change.{Change}
use Rattle.editions.specs.declared.Which.{Which}
use Rattle.editions.specs.declared.Which.TheVariants.{Older, Newer}

-- a parse's (R3)
abbrev pub answer_words : Answer → List ℕ
answer_words a = a.number ∷ a.position ∷ a.count ∷ a.looks ∷ []

-- a write's, a read's and a listing's (N13, V8)
abbrev pub moved_words : Moved → List ℕ
moved_words a = a.number ∷ a.position ∷ a.count ∷ []

-- the number of a text (Z7)
abbrev pub which_num : Which → ℕ
which_num Older = 1
which_num Newer = 2

-- a comparison's (Z7)
abbrev pub change_words : Change → List ℕ
change_words c = c.number ∷ c.position ∷ which_num c.which ∷ c.start ∷ c.end ∷ []
