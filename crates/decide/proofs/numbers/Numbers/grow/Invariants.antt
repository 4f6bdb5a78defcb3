use Rattle.std.proofs.Common.{◌<◌, length}
use Rattle.decide.proofs.numbers.Numbers.grow.Given as goal

abbrev pub invariant-loop-entry : goal.invariant-loop-entry
invariant-loop-entry l = 0 < length l.slots.items
