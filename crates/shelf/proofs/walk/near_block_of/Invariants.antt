use Rattle.std.proofs.Common.{◌<◌, ◌-◌, length, take}
use Rattle.shelf.specs.inside.Places.{AreBelow, joined}
use Rattle.shelf.proofs.walk.near_block_of.Given as goal

abbrev pub invariant-steps : goal.invariant-steps
invariant-steps g l = record {
  up : l.low < l.high;
  within : l.low < length l.blocks;
  below : AreBelow l.key (joined (take l.low l.blocks));
}

abbrev pub decreases-steps : goal.decreases-steps
decreases-steps g l = length l.blocks - l.high
