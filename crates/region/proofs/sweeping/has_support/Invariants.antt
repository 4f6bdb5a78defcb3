use Rattle.std.proofs.Common.{◌≡◌, false, take}
use Rattle.std.specs.List.{list_any}
use Rattle.region.specs.Sweeping.{supports}
use Rattle.region.proofs.sweeping.has_support.Given as goal

abbrev pub invariant-loop-b : goal.invariant-loop-b
invariant-loop-b l = list_any (supports l.old.rows l.touched l.suspects l.node) (take l.b-index l.nodes) ≡ false
