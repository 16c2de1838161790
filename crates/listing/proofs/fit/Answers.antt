use Rattle.std.proofs.Common.{◌≡◌, ℕ, ◌+◌, List, length, Ok, Err, zero-add, refl, sym, ap, ◌∙◌, subst, arith}
use Rattle.std.proofs.lemmas.Result.{err_from_is_err_and}
use Rattle.events.specs.declared.Event.{Event}
use Rattle.events.proofs.EachLaws.{came, none-left}
use Rattle.records.specs.Moved.{told}
use Rattle.refusals.proofs.NumberLaws.{number-some}
use Rattle.listing.specs.Listing.{line_in}
use Rattle.listing.specs.Modes.{mode_num}
use Rattle.listing.proofs.ModeLaws.{line_in-short}
use Rattle.listing.proofs.ListLaws.{Fitting, fit_refused, fit-start, fit-turn, fit_none, fit-end}
use Rattle.listing.proofs.fit.Goals as goal

pub returns-in_err-check : goal.returns-in_err-check
returns-in_err-check c =
    let p = err_from_is_err_and c.from_residual.result c.from_residual.ensures.1 in
    let r = c.in_err-check.field-0.0 in
    rw (p.1, p.2) (fit_refused (mode_num c.args.mode) c.args.words.now c.args.room (told (Err r)) c.in_err-check.ensures (number-some r.why))

pub loop-i-init : goal.loop-i-init
loop-i-init c =
    let e = c.into_iter-i-iterator.ensures.into_iter_gives in
    let m = mode_num c.args.mode in
    record {
      same_words = ap (λ s. s.words.now) e ∙ c.in_turn-i-items.ensures.words;
      going = subst (λ (i : ℕ). Fitting m c.args.words.now c.args.room i 0) (sym (ap (λ s. s.next) e ∙ c.in_turn-i-items.ensures.first))
          (fit-start m c.args.words.now c.args.room (told (Ok c.in_ok-check.field-0)) c.in_ok-check.ensures refl);
    }

pub put_in-requires : goal.put_in-requires
put_in-requires c = omega (arith, line_in-short (mode_num c.args.mode) c.in-Some.x)

pub overflow_sub-room : goal.overflow_sub-room
overflow_sub-room c = c.loop-i.invariant.going.within

pub returns-then-room-size : goal.returns-then-room-size
returns-then-room-size c =
    let l = c.loop-i in
    let m = mode_num c.args.mode in
    let w = c.args.words.now in
    let t = came w l.i-iterator c.next.new.self l.invariant.same_words c.in-Some.i c.in-Some.x c.in-Some.ensures.steps in
    let p = subst (λ (i : ℕ). Fitting m w c.args.room i l.size) t.index l.invariant.going in
    let e = c.put_in.ensures ∙ zero-add (length (line_in m c.in-Some.x)) ∙ ap (λ (x : Event). length (line_in m x)) t.event in
    rw (c.refused.ensures.0, c.refused.ensures.1) (fit_none m w c.args.room _ _ _ e t.some p c.if-room-size.true)

pub overflow_add-size : goal.overflow_add-size
overflow_add-size c = omega (arith, c.if-room-size.false, c.ranges.room.fits, c.loop-i.invariant.going.within)

pub loop-i-preserved : goal.loop-i-preserved
loop-i-preserved c =
    let l = c.loop-i in
    let m = mode_num c.args.mode in
    let w = c.args.words.now in
    let t = came w l.i-iterator c.next.new.self l.invariant.same_words c.in-Some.i c.in-Some.x c.in-Some.ensures.steps in
    let p = subst (λ (i : ℕ). Fitting m w c.args.room i l.size) t.index l.invariant.going in
    let e = c.put_in.ensures ∙ zero-add (length (line_in m c.in-Some.x)) ∙ ap (λ (x : Event). length (line_in m x)) t.event in
    record {
      same_words = t.same;
      going = subst (λ (i : ℕ). Fitting m w c.args.room i (l.size + c.put_in.new.sink.bytes)) (sym t.next) (fit-turn m w c.args.room _ _ _ e t.some p c.if-room-size.false);
    }

pub returns : goal.returns
returns c =
    let l = c.loop-i in
    let w = c.args.words.now in
    fit-end (mode_num c.args.mode) w c.args.room _ _ (none-left w l.i-iterator c.next.new.self l.invariant.same_words c.in-None.ensures.steps) l.invariant.going
