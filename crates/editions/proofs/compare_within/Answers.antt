use mathlib.Core.Path.{ap, ◌∙◌}
use Prim.Native.Nat.{ℕ}
use lib.ListN.{length, replicate}
use Rattle.editions.proofs.BetweenLaws.{change-older, change-newer, change-done}
use Rattle.editions.proofs.NoteLaws.{rechecks-settled}
use Rattle.editions.proofs.compare_within.Goals as goal

pub returns-then-a-ne0 : goal.returns-then-a-ne0
returns-then-a-ne0 c =
    let a = c.args in record { value = c.refused.ensures ∙ change-older a.limit a.lim (length a.lines.now) (length a.events.now) a.older.now a.og.now a.newer.now a.ng.now _ c.recheck-a.ensures.answer c.if-a-ne0.true; lines_after = c.zero.ensures ∙ c.recheck-a.ensures.lines-zeroed; events_after = c.wipe.ensures ∙ c.recheck-a.ensures.events-wiped }

pub returns-then-b-ne0 : goal.returns-then-b-ne0
returns-then-b-ne0 c =
    let a = c.args in
    let l = c.zero.auto.words ∙ c.recheck-a.auto.lines in
    let e = c.recheck-a.auto.events in record {
      value = c.refused-then-b-ne0.ensures ∙ change-newer a.limit a.lim (length a.lines.now) (length a.events.now) a.older.now a.og.now a.newer.now a.ng.now _ c.recheck-a.ensures.answer c.if-a-ne0.false
          _ _ l e _ c.recheck-b.ensures.answer c.if-b-ne0.true;
      lines_after = c.zero-then-b-ne0.ensures ∙ c.recheck-b.ensures.lines-zeroed ∙ ap (λ (n : ℕ). replicate {A = ℕ} n 0) l;
      events_after = c.wipe-2.ensures ∙ c.recheck-b.ensures.events-wiped ∙ ap (λ (n : ℕ). replicate {A = ℕ} n 0) e;
    }

pub changed_blocks-c-requires : goal.changed_blocks-c-requires
changed_blocks-c-requires c =
    let a = c.args in
    rechecks-settled a.limit a.lim a.older.now a.og.now a.newer.now a.ng.now _ _ _ _ _ _ _ _ _ _ c.recheck-a.ensures c.if-a-ne0.false c.recheck-b.ensures c.if-b-ne0.false
    c.recheck-b.auto.lines c.recheck-a.auto.events _ c.wipe-2.ensures

pub returns : goal.returns
returns c =
    let a = c.args in
    let l = c.zero.auto.words ∙ c.recheck-a.auto.lines in
    let e = c.recheck-a.auto.events in record {
      value = c.changed_blocks-c.ensures.value ∙ change-done a.limit a.lim (length a.lines.now) (length a.events.now) a.older.now a.og.now a.newer.now a.ng.now _ c.recheck-a.ensures.answer c.if-a-ne0.false
          _ _ l e _ c.recheck-b.ensures.answer c.if-b-ne0.false;
      lines_after = c.zero-2.ensures ∙ c.recheck-b.ensures.lines-zeroed ∙ ap (λ (n : ℕ). replicate {A = ℕ} n 0) l;
      events_after = c.changed_blocks-c.ensures.events_after ∙ ap (λ (n : ℕ). replicate {A = ℕ} n 0) (c.wipe-2.auto.events ∙ c.recheck-b.auto.events ∙ e);
    }
