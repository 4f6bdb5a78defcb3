use Rattle.std.proofs.Common.{◌<◌}
use Rattle.decide.proofs.numbers.slot_of.Given as goal

abbrev pub invariant-loop : goal.invariant-loop
invariant-loop l = l.at < l.count
