-- What a reader of a page's events relies on: one Document that nests, spans in the text (RULES E11). Assumes nothing.
use Rattle.std.specs.Prelude.{◌≡◌, true, false, List, [], ◌∷◌, ℕ, ◌≤◌, length}
use Rattle.events.specs.Pack.{is_stale, all_of, pack_of, live_of}
use Rattle.events.specs.declared.Event.{Event}
use Rattle.fields.specs.Fields.{is_ranged}
use Rattle.nests.specs.Nesting.{Nesting, outside, after_of, fault_of}

-- every event's span is in order and in the text (E11)
abbrev pub SpansIn : List ℕ → List Event → Type 0
SpansIn text [] = Unit {0}
SpansIn text (x ∷ xs) = (x.start ≤ x.end) × (x.end ≤ length text) × SpansIn text xs

-- every event that is not Stale has its words in their ranges, the text's length being the largest offset: labels, specs, classes and pos lie in the text (N7)
abbrev pub BodiesIn : List ℕ → List Event → Type 0
BodiesIn text [] = Unit {0}
BodiesIn text (x ∷ xs) = (is_stale x ≡ false → is_ranged (length text) x ≡ true) × BodiesIn text xs

-- each event may come after those before it, as the record writer sees it, no more than `most` are open, and Document has closed at the end (N8)
abbrev pub Nested : ℕ → Nesting → List Event → Type 0
Nested most n [] = n.done ≡ true
Nested most n (x ∷ xs) = (fault_of n x ≡ 0) × (length (after_of n x).opn ≤ most) × Nested most (after_of n x) xs

-- words that are events and no more; Stale counts for nothing (E10, E11)
pub record Sound (text words : List ℕ) : Type 0 where
  pub whole : pack_of (all_of words) ≡ words
  pub spans : SpansIn text (all_of words)
  pub bodies : BodiesIn text (all_of words)
  pub nested : Nested 100 outside (live_of (all_of words))
