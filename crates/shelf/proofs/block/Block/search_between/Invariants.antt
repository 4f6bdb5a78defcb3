use Rattle.std.proofs.Common.{◌≤◌, ◌-◌, length, take, drop}
use Rattle.shelf.specs.inside.Places.{AreBelow, AreAbove}
use Rattle.shelf.proofs.block.Block.search_between.Given as goal

abbrev pub invariant-halves : goal.invariant-halves
invariant-halves g l = record {
  up : l.low ≤ l.high;
  within : l.high ≤ length l.self;
  below : AreBelow l.key (take l.low l.self);
  above : AreAbove l.key (drop l.high l.self);
}

abbrev pub decreases-halves : goal.decreases-halves
decreases-halves g l = l.high - l.low
