-- What code has as values, as the words and numbers that the definitions speak of (RULES J10 to J13). Assumes nothing.
use Rattle.std.specs.Prelude.{◌≡◌, ◌⊎◌, ℕ, ◌<◌, Result, Ok, Err}
use Rattle.refusals.specs.Numbers.{number_of}
use Rattle.refusals.specs.declared.Refused.{Refused}
use Rattle.refusals.specs.declared.Refusal.{Refusal}
use Rattle.refusals.specs.declared.Refusal.TheVariants.{NotListed}
use Rattle.lines.specs.Lines.{Span}
use Rattle.sets.specs.Layout.{Listed, Spanned}
use Rattle.sets.specs.Opened.{Answer}
use Rattle.sets.specs.declared.Opened.{Opened}
use Rattle.sets.specs.declared.Element.{Element}
use Rattle.sets.specs.declared.Kind.{Kind}
use Rattle.sets.specs.declared.Kind.TheVariants.{Class, Id, Pair, Comment, Further}

-- a kind's word (J11, J16)
abbrev pub word_of : Kind → ℕ
word_of Class = 1
word_of Id = 2
word_of Pair = 3
word_of Comment = 4
word_of Further = 5

-- a word is read as the kind whose word it is, or as none
abbrev pub names : ℕ → Result Kind Refusal → Type 0
names n (Ok k) = word_of k ≡ n
names n (Err w) = (w ≡ NotListed) × ((n ≡ 0) ⊎ (5 < n))

-- an element's five words as the definitions have them
abbrev pub listed_as : Element → Listed
listed_as e = record { kind = e.kind; from = e.key.start; to = e.key.end; first = e.first; past = e.past }

abbrev pub spanned_as : Span → Spanned
spanned_as p = record { start = p.start; end = p.end }

-- what was answered, in numbers (J13)
abbrev pub answered : Result Opened Refused → Answer
answered (Ok o) = record { number = 0; position = o.position; count = o.count }
answered (Err r) = record { number = number_of r.why; position = r.at; count = 0 }
