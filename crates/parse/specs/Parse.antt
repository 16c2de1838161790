-- What parsing answers, and every word that it leaves (RULES R1 to R7, R17, R18). Assumes nothing.
use Rattle.std.specs.Prelude.{Ok, Err, List, ◌++◌, ℕ, ◌-◌, ◌/◌, min, eqb, length, replicate}
use Rattle.classes.specs.Choice.{pick}
use Rattle.lines.specs.Lines.{Split, split_of, refusal}
use Rattle.events.specs.Names.{deepest}
use Rattle.events.specs.State.{State}
use Rattle.events.specs.Events.{width}
use Rattle.walk.specs.Document.{start, document_of}
use Rattle.walk.specs.declared.Limits.{Limits}
use Rattle.parse.specs.declared.Answer.{Answer}

-- the answer (R3), and the words lent
pub record Outcome : Type 0 where
  pub answer : Answer
  pub lines : List ℕ
  pub events : List ℕ

abbrev pub outcome : ℕ → ℕ → ℕ → ℕ → List ℕ → List ℕ → Outcome
outcome n p c k l e = record { answer = record { number = n; position = p; count = c; looks = k }; lines = l; events = e }

-- the answer of a refusal (R5)
abbrev pub refused_as : ℕ → ℕ → Answer
refused_as n p = record { number = n; position = p; count = 0; looks = 0 }

-- the limits of nesting and sections (R1)
abbrev pub limits : Limits
limits = record { nesting = deepest; sections = deepest }

-- a larger limit counts as R1's (R18; DECISIONS F16)
abbrev pub capped_of : Limits → Limits
capped_of lim = record { nesting = min lim.nesting limits.nesting; sections = min lim.sections limits.sections }

-- a refusal leaves zeros; else the events stand first, and zeros after them; line words are zero in both cases (R4, R5, R17)
unfoldable pub finish : ℕ → ℕ → ℕ → State → Outcome
finish len l e s =
    pick (eqb s.number 0)
    (outcome 0 len (length s.evs / width) s.looks (replicate l 0) (s.evs ++ replicate (e - length s.evs) 0))
    (outcome s.number s.at 0 0 (replicate l 0) (replicate e 0))

-- refusals 1 and 2 leave all as found (R6, R7, R17)
abbrev pub parse_by : Limits → List ℕ → List ℕ → List ℕ → Split → Outcome
parse_by lim text lines events (Err r) = outcome (refusal (Err r)) 0 0 0 lines events
parse_by lim text lines events (Ok n) =
    finish (length text) (length lines) (length events) (document_of text lim (start (length events) lim.nesting))

-- with the limits that are set (R18)
unfoldable pub parse_of : ℕ → Limits → List ℕ → List ℕ → List ℕ → Outcome
parse_of limit lim text lines events = parse_by (capped_of lim) text lines events (split_of text limit (length lines))
