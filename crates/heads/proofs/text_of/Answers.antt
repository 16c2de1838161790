use mathlib.Core.Path.{sym, ◌∙◌}
use Rattle.heads.proofs.HeadsLaws.{text-behind, text-whole}
use Rattle.heads.proofs.text_of.Goals as goal

pub returns-then-asks_full : goal.returns-then-asks_full
returns-then-asks_full c = text-behind c.args.file.now (sym c.asks_full.ensures ∙ c.if-asks_full.true) _ c.part.ensures

pub returns : goal.returns
returns c = text-whole c.args.file.now (sym c.asks_full.ensures ∙ c.if-asks_full.false)
