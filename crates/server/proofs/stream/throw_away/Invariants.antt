use Rattle.std.proofs.Common.{◌≤◌, ◌*◌}
use Rattle.server.specs.declared.stream.TheConstants.{PIECE_LEN}
use Rattle.server.proofs.stream.throw_away.Given as goal

abbrev pub invariant-loop : goal.invariant-loop
invariant-loop g l = l.thrown ≤ l.counter * PIECE_LEN
