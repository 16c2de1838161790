use Rattle.std.proofs.Common.{rules, tests, ◌∙◌, ◌-◌, ◌≡◌, length, length-drop, take, drop, arith}
use Rattle.std.proofs.Math.Seq.{take_all}
use Rattle.std.proofs.lemmas.Iterator.{YieldsList-from_slice}
use Rattle.std.proofs.lemmas.Iterator.Search.{position_from_yields_List}
use Rattle.classes.proofs.FindLaws.{behind-find}
use Rattle.classes.proofs.find.Goals as goal

pub returns-in_err-position : goal.returns-in_err-position
returns-in_err-position g c = λ p acts.
    let n = c.skip-skipped.result in
    let s = c.args.s.now in
    let t : take (length s - n) (drop n s) ≡ drop n s = take_all (length s - n) (drop n s) (omega (arith, length-drop n s)) in
    let r = position_from_yields_List p _ _ c.position.result c.position.ensures.ran (YieldsList-from_slice _ c.iter.ensures.rest) (λ x b q k. search (rules, tests, acts)) in
    c.from_residual.ensures ∙ rw c.in_err-position.was at (behind-find p n s _ c.position.result c.skip-skipped.ensures.bound (c.skip-skipped.ensures.none p acts) t r)

pub returns : goal.returns
returns g c = λ p acts.
    let n = c.skip-skipped.result in
    let s = c.args.s.now in
    let t : take (length s - n) (drop n s) ≡ drop n s = take_all (length s - n) (drop n s) (omega (arith, length-drop n s)) in
    let r = position_from_yields_List p _ _ c.position.result c.position.ensures.ran (YieldsList-from_slice _ c.iter.ensures.rest) (λ x b q k. search (rules, tests, acts)) in
    rw c.in_ok-position.was at (behind-find p n s _ c.position.result c.skip-skipped.ensures.bound (c.skip-skipped.ensures.none p acts) t r)
