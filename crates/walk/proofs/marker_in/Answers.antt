use borrow.Enum.Refused.{opened}
use mathlib.Core.Path.{sym, ap}
use Rattle.kinds.specs.declared.Kind.{Kind}
use Rattle.walk.specs.Fields.{marker_in}
use Rattle.walk.proofs.FieldLaws.{marker-none}
use Rattle.walk.proofs.marker_in.Goals as goal

pub returns-in-ListItem : goal.returns-in-ListItem
returns-in-ListItem c = sym (ap (λ (k : Kind). marker_in k) c.in-ListItem.is)

pub returns-in_default : goal.returns-in_default
returns-in_default c = marker-none c.args.kind (opened c.in_default.in_default-own.keys2)
