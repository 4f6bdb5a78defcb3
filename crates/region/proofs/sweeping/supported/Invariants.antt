use Rattle.std.proofs.Common.{take}
use Rattle.region.specs.Sweeping.{IsSupported}
use Rattle.region.proofs.Swept.{SupportedAt}
use Rattle.region.proofs.sweeping.supported.Given as goal

abbrev pub invariant-loop-node : goal.invariant-loop-node
invariant-loop-node l = SupportedAt (IsSupported l.old.rows l.touched l.named l.roots l.suspects) (take l.node-index l.nodes) l.found
