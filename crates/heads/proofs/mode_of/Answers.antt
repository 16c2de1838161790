use mathlib.Core.Path.{sym, ◌∙◌}
use Rattle.heads.proofs.HeadsLaws.{mode-full, mode-short}
use Rattle.heads.proofs.mode_of.Goals as goal

pub returns-then-asks_full : goal.returns-then-asks_full
returns-then-asks_full c = mode-full c.args.file.now (sym c.asks_full.ensures ∙ c.if-asks_full.true)

pub returns : goal.returns
returns c = mode-short c.args.file.now (sym c.asks_full.ensures ∙ c.if-asks_full.false)
