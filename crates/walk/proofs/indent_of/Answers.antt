use borrow.Enum.Refused.{opened}
use mathlib.Core.Path.{sym, ap}
use Rattle.kinds.specs.declared.Kind.{Kind}
use Rattle.walk.specs.Fields.{indent_of}
use Rattle.walk.proofs.FieldLaws.{indent-none}
use Rattle.walk.proofs.indent_of.Goals as goal

pub returns-in-Fenced : goal.returns-in-Fenced
returns-in-Fenced c = sym (ap (λ (k : Kind). indent_of k) c.in-Fenced.is)

pub returns-in-Definition : goal.returns-in-Definition
returns-in-Definition c = sym (ap (λ (k : Kind). indent_of k) c.in-Definition.is)

pub returns-in-ListItem : goal.returns-in-ListItem
returns-in-ListItem c = sym (ap (λ (k : Kind). indent_of k) c.in-ListItem.is)

pub returns-in_default : goal.returns-in_default
returns-in_default c = indent-none c.args.kind (opened c.in_default.in_default-own.keys4)
