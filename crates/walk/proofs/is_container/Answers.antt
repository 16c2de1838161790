use borrow.Enum.Refused.{opened}
use mathlib.Core.Path.{sym, ap}
use Rattle.kinds.specs.declared.Kind.{Kind}
use Rattle.walk.specs.Fields.{is_container}
use Rattle.walk.proofs.FieldLaws.{container-none}
use Rattle.walk.proofs.is_container.Goals as goal

pub returns-in-Fenced : goal.returns-in-Fenced
returns-in-Fenced c = sym (ap (λ (k : Kind). is_container k) c.in-Fenced.is)

pub returns-in-Definition : goal.returns-in-Definition
returns-in-Definition c = sym (ap (λ (k : Kind). is_container k) c.in-Definition.is)

pub returns-in_default : goal.returns-in_default
returns-in_default c = container-none c.args.kind (opened c.in_default.in_default-own.keys5)
