use native.Mathlib.Omega.{arith}
use Rattle.record.proofs.RecordLaws.{kind-joined}
use Rattle.record.proofs.kind_byte.Goals as goal

pub overflow_cast-result : goal.overflow_cast-result
overflow_cast-result c = omega (arith, kind-joined c.args.role c.args.node c.requires.0 c.requires.1)

pub returns : goal.returns
returns c = kind-joined c.args.role c.args.node c.requires.0 c.requires.1
