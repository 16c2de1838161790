-- What the reader and the words lent to it stand for. Assumes nothing.
use Rattle.std.specs.Prelude.{◌≡◌, Bool, not, List, ℕ, ◌*◌, ◌≤◌, eqb, ltb, length, take, Result, Ok, Err}
use Rattle.refusals.specs.Numbers.{number_of}
use Rattle.refusals.specs.declared.Refused.{Refused}
use Rattle.classes.specs.Choice.{pick, both, either}
use Rattle.attrs.specs.Machine.{num, CommentFirst, Key, Comment, CommentNewline, ValueFirst, Value, ValueQuoted, ValueEscape, ValueNewline, ValueContinued}
use Rattle.sets.specs.Given.{stays, Bad, Good}
use Rattle.sets.specs.Opened.{Held, held, Outcome, judged, refused_as, element_width, piece_width}
use Rattle.sets.specs.Words.{answered}
use Rattle.sets.specs.declared.Opened.{Opened}
use Rattle.sets.specs.declared.reader.Reader.{Reader}

-- what is written
abbrev pub held_in : Reader → Held
held_in r = held (take (r.count * element_width) r.elements.now) (take (r.parts * piece_width) r.pieces.now)

-- what is held after a step
abbrev pub held_by : {X : Type 0} → Reader → Result X Refused → Held
held_by r (Ok x) = held_in r
held_by r (Err w) = record { elements = (held_in r).elements; pieces = (held_in r).pieces; number = number_of w.why; place = w.at }

-- the same lent words, and no element is given up
pub record Onward (r z : Reader) : Type 0 where
  pub elements : z.elements.ghost_name ≡ r.elements.ghost_name
  pub pieces : z.pieces.ghost_name ≡ r.pieces.ghost_name
  pub element_words : length z.elements.now ≡ length r.elements.now
  pub piece_words : length z.pieces.now ≡ length r.pieces.now
  pub count : r.count ≤ z.count

-- and the machine is where it was
pub record Same (r z : Reader) : Type 0 where
  pub onward : Onward r z
  pub state : z.state ≡ r.state
  pub from : z.from ≡ r.from
  pub at : z.at ≡ r.at

-- a state in which the last element's value goes on, so that there is one
unfoldable pub is_owned : ℕ → Bool
is_owned s =
    either (eqb s (num Comment)) (either (eqb s (num CommentNewline))
    (either (eqb s (num ValueFirst)) (either (eqb s (num Value)) (either (eqb s (num ValueQuoted))
    (either (eqb s (num ValueEscape)) (either (eqb s (num ValueNewline)) (eqb s (num ValueContinued))))))))

-- a step from s to t leaves an element behind it: there was one, or one begins as a comment's or a key's part ends
abbrev pub owns : ℕ → ℕ → Bool
owns s t = either (is_owned s) (both (not (stays s t)) (either (eqb s (num CommentFirst)) (eqb s (num Key))))

-- what is answered at p, a set of n bytes being complete there and nothing behind it one
abbrev pub complete_by : ℕ → ℕ → ℕ → Held → ℕ → ℕ → Outcome
complete_by ne np lent h p n = judged ne np lent h (pick (ltb p n) (Bad p) Good)

-- what a result answers, with the words that it leaves: a refusal's are all cleared
abbrev pub outcome_of : Result Opened Refused → List ℕ → List ℕ → Outcome
outcome_of (Ok o) es ps = record { answer = answered (Ok o); elements = es; pieces = ps }
outcome_of (Err r) es ps = refused_as (length es) (length ps) (number_of r.why) r.at
