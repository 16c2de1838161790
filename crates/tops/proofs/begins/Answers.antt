use Rattle.std.proofs.Common.{rules}
use Rattle.tops.specs.Tops.{begins_of}
use Rattle.tops.proofs.begins.Goals as goal

pub returns-then-x-eq-ATOM : goal.returns-then-x-eq-ATOM
unfolding begins_of
returns-then-x-eq-ATOM c = search rules

pub returns-then-x-eq-ENTER : goal.returns-then-x-eq-ENTER
unfolding begins_of
returns-then-x-eq-ENTER c = search rules

pub returns-else-x-eq-ENTER : goal.returns-else-x-eq-ENTER
unfolding begins_of
returns-else-x-eq-ENTER c = search rules

pub returns-else-n-eq0 : goal.returns-else-n-eq0
unfolding begins_of
returns-else-n-eq0 c = search rules
