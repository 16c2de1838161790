use Rattle.std.proofs.Common.{rules, tests, ◌≡◌, not, ap, ◌∙◌, length, arith}
use Rattle.std.specs.List.{position}
use Rattle.std.proofs.lemmas.Iterator.{YieldsList-from_slice}
use Rattle.std.proofs.lemmas.Iterator.Search.{position_from_yields_List}
use Rattle.std.specs.Option.{unwrap_or}
use Rattle.kinds.proofs.ByteLaws.{unwrap-position}
use Rattle.trim.specs.Trim.{front}
use Rattle.trim.proofs.TrimLaws.{front-le}
use Rattle.kinds.specs.Bytes.{same}
use Rattle.kinds.proofs.run_of.Goals as goal

pub returns : goal.returns
returns c =
    let e : c.position.result ≡ position (λ x. not (same c.args.b x)) c.args.t.now =
    position_from_yields_List (λ x. not (same c.args.b x)) _ _ c.position.result c.position.ensures.ran (YieldsList-from_slice c.args.t.now c.iter.ensures.rest) (λ x b q k. search (rules, tests)) in
    let f : c.unwrap_or.result ≡ front (same c.args.b) c.args.t.now = c.unwrap_or.ensures ∙ ap (λ o. unwrap_or o (length c.args.t.now)) e ∙ unwrap-position (same c.args.b) c.args.t.now in
    (f, omega (arith, front-le (same c.args.b) c.args.t.now))
