use native.Mathlib.Omega.{arith}
use mathlib.Core.Path.{◌∙◌}
use Rattle.lines.specs.Lines.{spans_of}
use Rattle.events.specs.View.{view}
use Rattle.tree.proofs.BlockLaws.{plain-atom, plain-table, plain-leaf}
use Rattle.tree.proofs.plain.Goals as goal

pub push-requires : goal.push-requires
push-requires c = c.requires.0.words

pub returns-then-n-le-THEMATIC_BREAK : goal.returns-then-n-le-THEMATIC_BREAK
returns-then-n-le-THEMATIC_BREAK c =
    let a = c.args in
    let p = c.push.ensures in record { by_index = λ l. p.by_index a.stack.now l a.levels.now ∙ plain-atom a.text.now a.top a.m a.line (spans_of a.lines.now) (view a.st a.events.now a.stack.now l a.levels.now) c.kind_num-n.result c.kind_num-n.ensures c.if-n-le-THEMATIC_BREAK.true c.mark.result c.mark.ensures; fits = (record { words = p.words_in_bounds.0; depth = omega (arith, p.words_in_bounds.2.depth, c.requires.0.depth); room = c.requires.0.room }, omega (arith, p.words_in_bounds.2.sections, c.requires.1), p.words_in_bounds.2.lists) }

pub table-requires : goal.table-requires
table-requires c = c.requires.0

pub returns-then-n-eq-TABLE : goal.returns-then-n-eq-TABLE
returns-then-n-eq-TABLE c =
    let a = c.args in
    let p = c.table.ensures in record { by_index = λ l. p.by_index l a.levels.now ∙ plain-table a.text.now a.top a.m a.line (spans_of a.lines.now) (view a.st a.events.now a.stack.now l a.levels.now) c.kind_num-n.result c.kind_num-n.ensures c.if-n-le-THEMATIC_BREAK.false c.if-n-eq-TABLE.true; fits = (p.fits.0, omega (arith, p.fits.1.sections, c.requires.1), p.fits.1.lists) }

pub leaf-requires : goal.leaf-requires
leaf-requires c = c.requires

pub returns : goal.returns
returns c =
    let a = c.args in
    let p = c.leaf.ensures in record { by_index = λ l. p.by_index l ∙ plain-leaf a.text.now a.top a.m a.line (spans_of a.lines.now) (view a.st a.events.now a.stack.now l a.levels.now) c.kind_num-n.result c.kind_num-n.ensures c.if-n-le-THEMATIC_BREAK.false c.if-n-eq-TABLE.false; fits = p.fits }
