use Rattle.std.proofs.Common.{arith}
use Rattle.tuple_keys.proofs.Packing.{count}
use Rattle.tuple_keys.proofs.kept_events.KeptEvents.len.Goals as goal

pub returns : goal.returns
returns c = omega (arith, count _ _ c.self.invariant _ c.self.view_is)
