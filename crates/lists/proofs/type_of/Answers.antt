use mathlib.Core.Path.{sym}
use Rattle.lists.proofs.ListLaws.{is-unordered, is-ordered, is-task, is-description, is-nothing}
use Rattle.lists.proofs.type_of.Goals as goal

pub returns-then-kind-eq1 : goal.returns-then-kind-eq1
returns-then-kind-eq1 c = sym (is-unordered c.args.word c.args.value c.if-kind-eq1.true)

pub returns-then-kind-eq2 : goal.returns-then-kind-eq2
returns-then-kind-eq2 c = rw (c.numbering_by-numbering.ensures, c.style_by-style.ensures) (sym (is-ordered c.args.word c.args.value c.if-kind-eq2.true))

pub returns-then-kind-eq3 : goal.returns-then-kind-eq3
returns-then-kind-eq3 c = sym (is-task c.args.word c.args.value c.if-kind-eq3.true)

pub returns-then-kind-eq4 : goal.returns-then-kind-eq4
returns-then-kind-eq4 c = sym (is-description c.args.word c.args.value c.if-kind-eq4.true)

pub returns : goal.returns
returns c = sym (is-nothing c.args.word c.args.value c.if-kind-eq1.false c.if-kind-eq2.false c.if-kind-eq3.false c.if-kind-eq4.false)
