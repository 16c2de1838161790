use mathlib.Core.Path.{◌∙◌, sym}
use Rattle.measure.proofs.NumberLaws.{quote-line}
use Rattle.measure.proofs.LookLaws.{fence-goes-on, quote-goes-on}
use Rattle.measure.proofs.early.Goals as goal

pub returns-else-closed : goal.returns-else-closed
returns-else-closed c = (sym c.in-Fenced.is, fence-goes-on _ _ _ _ _ _ _ _ c.in-Fenced.is c.if-closed.false)

pub returns-then-opens_quote : goal.returns-then-opens_quote
returns-then-opens_quote c = quote-goes-on _ _ c.in-Blockquote.is (quote-line c.args.line.now (sym c.opens_quote.ensures ∙ c.if-opens_quote.true))
