use Rattle.std.proofs.Common.{rules, tests, ◌≡◌, ◌∙◌}
use Rattle.std.specs.List.{list_all}
use Rattle.std.proofs.lemmas.Iterator.{YieldsList-from_slice}
use Rattle.std.proofs.lemmas.Iterator.Search.{all_from_yields_List}
use Rattle.classes.specs.Classes.{is_name}
use Rattle.kinds.specs.Bytes.{is_spec_byte}
use Rattle.kinds.proofs.ByteLaws.{front-all}
use Rattle.kinds.proofs.KindLaws.{spec-name, spec-code}
use Rattle.kinds.proofs.spec_ok.Goals as goal

pub returns-then-mark-eq58 : goal.returns-then-mark-eq58
returns-then-mark-eq58 c =
    let e : c.all.result ≡ list_all is_name c.args.spec.now = all_from_yields_List is_name _ _ c.all.result c.all.ensures.ran (YieldsList-from_slice c.args.spec.now c.iter.ensures.rest) (λ x b q k. search (rules, tests)) in
    e ∙ front-all is_name c.args.spec.now ∙ spec-name _ _ c.if-mark-eq58.true

pub returns : goal.returns
returns c =
    let e : c.all-2.result ≡ list_all is_spec_byte c.args.spec.now = all_from_yields_List is_spec_byte _ _ c.all-2.result c.all-2.ensures.ran (YieldsList-from_slice c.args.spec.now c.iter-2.ensures.rest) (λ x b q k. search (rules, tests)) in
    e ∙ front-all is_spec_byte c.args.spec.now ∙ spec-code _ _ c.if-mark-eq58.false
