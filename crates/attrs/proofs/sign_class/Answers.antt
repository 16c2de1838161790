use native.Mathlib.Omega.{arith}
use mathlib.Core.Path.{◌∙◌, sym, ap}
use Rattle.attrs.specs.Machine.{sign_class}
use Rattle.attrs.proofs.MachineLaws.{unsigned-class}
use Rattle.attrs.proofs.sign_class.Goals as goal

pub returns-then-is_space : goal.returns-then-is_space
returns-then-is_space c = (sym (unsigned-class _ c.in_default.in_default-own.rest ∙ rw (sym c.is_space.ensures ∙ c.if-is_space.true)), omega arith)

pub returns-in-123 : goal.returns-in-123
unfolding sign_class
returns-in-123 c = (sym (ap sign_class c.in-123.is), omega arith)

pub returns-in-125 : goal.returns-in-125
unfolding sign_class
returns-in-125 c = (sym (ap sign_class c.in-125.is), omega arith)

pub returns-in-46 : goal.returns-in-46
unfolding sign_class
returns-in-46 c = (sym (ap sign_class c.in-46.is), omega arith)

pub returns-in-35 : goal.returns-in-35
unfolding sign_class
returns-in-35 c = (sym (ap sign_class c.in-35.is), omega arith)

pub returns-in-37 : goal.returns-in-37
unfolding sign_class
returns-in-37 c = (sym (ap sign_class c.in-37.is), omega arith)

pub returns-in-61 : goal.returns-in-61
unfolding sign_class
returns-in-61 c = (sym (ap sign_class c.in-61.is), omega arith)

pub returns-in-34 : goal.returns-in-34
unfolding sign_class
returns-in-34 c = (sym (ap sign_class c.in-34.is), omega arith)

pub returns-in-92 : goal.returns-in-92
unfolding sign_class
returns-in-92 c = (sym (ap sign_class c.in-92.is), omega arith)

pub returns-in-10 : goal.returns-in-10
unfolding sign_class
returns-in-10 c = (sym (ap sign_class c.in-10.is), omega arith)

pub returns-else-is_space : goal.returns-else-is_space
returns-else-is_space c = (sym (unsigned-class _ c.in_default.in_default-own.rest ∙ rw (sym c.is_space.ensures ∙ c.if-is_space.false)), omega arith)
