use native.Mathlib.Omega.{arith}
use mathlib.Core.Path.{◌∙◌, sym}
use Rattle.attrs.specs.Machine.{class_of}
use Rattle.attrs.proofs.class_of.Goals as goal

pub returns-then-is_name : goal.returns-then-is_name
unfolding class_of
returns-then-is_name c = (rw (sym c.is_name.ensures ∙ c.if-is_name.true), omega arith)

pub returns : goal.returns
unfolding class_of
returns c = (rw (sym c.is_name.ensures ∙ c.if-is_name.false) c.sign_class.ensures.0, c.sign_class.ensures.1)
