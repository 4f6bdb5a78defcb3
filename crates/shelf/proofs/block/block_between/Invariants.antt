use Rattle.std.proofs.Common.{◌≤◌, ◌<◌, ◌-◌, length, take, drop}
use Rattle.shelf.specs.inside.Places.{AreBelow, AreAbove, joined}
use Rattle.shelf.proofs.block.block_between.Given as goal

abbrev pub invariant-halves : goal.invariant-halves
invariant-halves g l = record {
  up : l.low < l.high;
  within : l.high ≤ length l.blocks;
  below : AreBelow l.key (joined (take l.low l.blocks));
  above : AreAbove l.key (joined (drop l.high l.blocks));
}

abbrev pub decreases-halves : goal.decreases-halves
decreases-halves g l = l.high - l.low
