use mathlib.Core.Path.{sym, ◌∙◌}
use Rattle.entries.specs.Text.{text}
use Rattle.heads.proofs.HeadsLaws.{asks-word, asks-line}
use Rattle.heads.proofs.asks_full.Goals as goal

pub returns-then-same : goal.returns-then-same
unfolding text
returns-then-same c = asks-word c.args.file.now (sym c.same.ensures ∙ c.if-same.true)

pub returns : goal.returns
unfolding text
returns c = asks-line c.args.file.now (sym c.same.ensures ∙ c.if-same.false) _ _ c.part.ensures c.same-2.ensures
