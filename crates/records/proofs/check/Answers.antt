use Rattle.std.proofs.Common.{◌≡◌, ℕ, List, ◌+◌, ◌*◌, ◌<◌, refl, sym, ap, ◌∙◌, subst, arith}
use Rattle.std.proofs.lemmas.Result.{err_from_is_err_and}
use Rattle.events.proofs.EachLaws.{came, none-left}
use Rattle.nests.proofs.NestLaws.{admits}
use Rattle.events.specs.Pack.{event_in}
use Rattle.refusals.specs.Numbers.{number_of}
use Rattle.records.specs.Records.{moved}
use Rattle.records.proofs.WriteLaws.{Checking, check-start, checking-stale, checking-fault, checking-full, checking-next, checking-open, checking-spare, checking-whole}
use Rattle.records.proofs.check.Goals as goal
use Rattle.records.proofs.check.Goals.{then-not-nest-via-then-not-nest, then-not-nest-via-else-not-nest+then-words-ne0}

pub loop-i-init : goal.loop-i-init
loop-i-init c =
    let e = c.into_iter-i-iterator.ensures.into_iter_gives in
    record {
      same_open = refl;
      same_words = ap (λ s. s.words.now) e ∙ c.in_turn-i-items.ensures.words;
      going = subst (Checking c.args.words.now c.args.lent c.new-nest.result 0) (sym (ap (λ s. s.next) e ∙ c.in_turn-i-items.ensures.first)) (check-start _ c.args.lent _ c.new-nest.ensures.none c.new-nest.ensures.outside);
    }

pub loop-i-preserved-then-is_stale : goal.loop-i-preserved-then-is_stale
loop-i-preserved-then-is_stale c =
    let l = c.loop-i in
    let t = came c.args.words.now l.i-iterator c.next.new.self l.invariant.same_words c.in-Some.i c.in-Some.x c.in-Some.ensures.steps in
    let g = subst (Checking c.args.words.now c.args.lent l.nest l.size) t.index l.invariant.going in
    record {
      same_open = refl;
      same_words = t.same;
      going = subst (Checking c.args.words.now c.args.lent l.nest l.size) (sym t.next) (checking-stale _ _ _ _ _ g t.some _ t.event (sym c.is_stale.ensures ∙ c.if-is_stale.true));
    }

pub fault-requires : goal.fault-requires
fault-requires c = c.loop-i.invariant.going.held

pub returns-in_err-fault : goal.returns-in_err-fault
returns-in_err-fault c =
    let l = c.loop-i in
    let t = came c.args.words.now l.i-iterator c.next.new.self l.invariant.same_words c.in-Some.i c.in-Some.x c.in-Some.ensures.steps in
    let g = subst (Checking c.args.words.now c.args.lent l.nest l.size) t.index l.invariant.going in
    let p = err_from_is_err_and c.from_residual.result c.from_residual.ensures.1 in
    rw (p.1, p.2) (checking-fault _ _ _ _ _ g t.some _ t.event (sym c.is_stale.ensures ∙ c.if-is_stale.false) c.in_err-fault.field-0.0 c.in_err-fault.ensures)

pub overflow_sub-lent : goal.overflow_sub-lent
overflow_sub-lent c = c.loop-i.invariant.going.within

pub returns-then-lent-size : goal.returns-then-lent-size
returns-then-lent-size c =
    let l = c.loop-i in
    let t = came c.args.words.now l.i-iterator c.next.new.self l.invariant.same_words c.in-Some.i c.in-Some.x c.in-Some.ensures.steps in
    let g = subst (Checking c.args.words.now c.args.lent l.nest l.size) t.index l.invariant.going in
    rw (c.refused.ensures.0, c.refused.ensures.1) (checking-full _ _ _ _ _ g t.some _ t.event (sym c.is_stale.ensures ∙ c.if-is_stale.false) c.in_ok-fault.ensures _ c.size_of-more.ensures c.if-lent-size.true)

pub overflow_mul-i : goal.overflow_mul-i
overflow_mul-i c =
    let l = c.loop-i in
    let t = came c.args.words.now l.i-iterator c.next.new.self l.invariant.same_words c.in-Some.i c.in-Some.x c.in-Some.ensures.steps in
    omega (arith, t.some)

pub follow-requires : goal.follow-requires
follow-requires c = admits c.loop-i.nest (event_in c.args.words.now) c.in-Some.x c.in_ok-fault.ensures

pub overflow_add-size : goal.overflow_add-size
overflow_add-size c = omega (arith, c.loop-i.invariant.going.within)

pub loop-i-preserved : goal.loop-i-preserved
loop-i-preserved c =
    let l = c.loop-i in
    let t = came c.args.words.now l.i-iterator c.next.new.self l.invariant.same_words c.in-Some.i c.in-Some.x c.in-Some.ensures.steps in
    let g = subst (Checking c.args.words.now c.args.lent l.nest l.size) t.index l.invariant.going in
    record {
      same_open = refl;
      same_words = t.same;
      going = subst (Checking c.args.words.now c.args.lent c.follow.new.self (l.size + c.size_of-more.result)) (sym t.next)
          (checking-next _ _ _ _ _ g t.some _ t.event (sym c.is_stale.ensures ∙ c.if-is_stale.false) c.in_ok-fault.ensures _ c.size_of-more.ensures c.if-lent-size.false c.follow.new.self c.follow.ensures.by_index c.follow.ensures.held);
    }

pub returns-then-not-nest : goal.returns-then-not-nest
returns-then-not-nest c =
    let l = c.loop-i in
    let h = none-left c.args.words.now l.i-iterator c.next.new.self l.invariant.same_words c.in-None.ensures.steps in
    rw (c.refused-then-not-nest.ensures.0, c.refused-then-not-nest.ensures.1) (elim c.then-not-nest.branch [
      | then-not-nest-via-then-not-nest w ↦ checking-open _ _ _ _ _ l.invariant.going h w.if-not-nest.true
      | then-not-nest-via-else-not-nest+then-words-ne0 w ↦ checking-spare _ _ _ _ _ l.invariant.going h w.if-not-nest.false w.if-words-ne0.true
    ])

pub returns : goal.returns
returns c =
    let l = c.loop-i in
    let h = none-left c.args.words.now l.i-iterator c.next.new.self l.invariant.same_words c.in-None.ensures.steps in
    checking-whole _ _ _ _ _ l.invariant.going h c.if-not-nest.false c.if-words-ne0.false
