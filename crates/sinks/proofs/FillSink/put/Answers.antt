use Rattle.std.proofs.Common.{refl}
use Rattle.sinks.proofs.FillSink.put.Goals as goal

pub returns : goal.returns
returns c = record { same = refl; place = refl; bytes = c.copy.ensures }
