use Rattle.std.proofs.Common.{◌≤◌, ◌<◌, ◌-◌, length}
use Rattle.idsets.specs.Places.{AreBelow}
use Rattle.idsets.proofs.place.place_from.Given as goal

abbrev pub invariant-steps : goal.invariant-steps
invariant-steps l = record {
  within : l.low ≤ length l.ids;
  some : 0 < l.step;
  below : AreBelow l.ids l.id l.low;
}

abbrev pub decreases-steps : goal.decreases-steps
decreases-steps l = length l.ids - l.low
