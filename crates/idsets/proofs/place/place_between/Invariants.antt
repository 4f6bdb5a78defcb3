use Rattle.std.proofs.Common.{◌≤◌, ◌-◌, length}
use Rattle.idsets.specs.Places.{AreBelow, AreFrom}
use Rattle.idsets.proofs.place.place_between.Given as goal

abbrev pub invariant-halves : goal.invariant-halves
invariant-halves l = record {
  up : l.low ≤ l.high;
  within : l.high ≤ length l.ids;
  below : AreBelow l.ids l.id l.low;
  from : AreFrom l.ids l.id l.high;
}

abbrev pub decreases-halves : goal.decreases-halves
decreases-halves l = l.high - l.low
