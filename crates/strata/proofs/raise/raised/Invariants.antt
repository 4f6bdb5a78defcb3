use Rattle.strata.specs.inside.Raise.{IsRaising, room}
use Rattle.strata.proofs.raise.raised.Given as goal

abbrev pub invariant-loop : goal.invariant-loop
invariant-loop l = IsRaising l.steps l.count l.levels.items

abbrev pub decreases-loop : goal.decreases-loop
decreases-loop l = room l.steps l.levels.items
