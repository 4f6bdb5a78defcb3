use Rattle.std.proofs.Common.{Contains}
use Rattle.graphs.specs.Groups.{IsGroupArc}
use Rattle.leopard.specs.Build.{IsOwner, IsListed}
use Rattle.leopard.proofs.Rounds.{IsRound}
use Rattle.leopard.proofs.building.groups_of.Given as goal

abbrev pub invariant-loop : goal.invariant-loop
invariant-loop l = IsRound (IsGroupArc l.input) (IsOwner l.input) (IsListed l.input) (Contains l.groups) (Contains l.fresh)
