use Rattle.std.proofs.Common.{◌≤◌, ◌<◌, ℕ, List, take, length, get_or, reverse, sym, ap, ◌∙◌, subst, arith}
use Rattle.std.specs.List.{fold}
use Rattle.std.proofs.lemmas.List.{get_or-take}
use lib.ListN.{get_or-eq_default}
use lib.Seq.{length-take-le}
use Rattle.std.proofs.lemmas.Bool.{cases_lt}
use Rattle.std.proofs.Common.{inl, inr}
use Rattle.record.specs.Record.{with_byte}
use Rattle.record.proofs.RecordLaws.{number-value}
use Rattle.record.proofs.take_number.Goals as goal

front-below : (bs : List ℕ) (w : ℕ) → ((i : ℕ) → get_or bs i 0 < 256) → w ≤ length bs → (i : ℕ) → get_or (take w bs) i 0 < 256
front-below bs w h l i = elim (cases_lt i w) [
  | inl k ↦ subst (λ (v : ℕ). v < 256) (sym (get_or-take w bs i 0 k)) (h i)
  | inr k ↦ subst (λ (v : ℕ). v < 256) (sym (get_or-eq_default (take w bs) 0 (omega (arith, length-take-le w bs l)))) (omega arith)
]

pub returns-clause-number : goal.returns-clause-number
returns-clause-number c =
    let bs = c.args.bytes.now in
    let w = c.args.w in
    c.number_of.ensures ∙ ap (λ (l : List ℕ). fold with_byte 0 (reverse l)) c.split_at.ensures.front
    ∙ (number-value (take w bs) (front-below bs w (λ i. (c.type_inv.bytes i).fits) c.requires.whole) (omega (arith, length-take-le w bs c.requires.whole))).0
