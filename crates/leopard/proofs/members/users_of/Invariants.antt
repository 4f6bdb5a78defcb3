use Rattle.std.proofs.Common.{Any, Contains, drop}
use Rattle.std.specs.Prelude.{◌↔◌, ◌⊎◌}
use Rattle.names.specs.declared.object.Object.{Object}
use Rattle.leopard.specs.inside.Building.{NamesOne}
use Rattle.leopard.proofs.members.users_of.Given as goal

abbrev pub invariant-loop-tuple : goal.invariant-loop-tuple
invariant-loop-tuple l = (u : Object) → (Contains l.users.items u ⊎ Any (NamesOne l.config u) (drop l.tuple-index l.tuples)) ↔ Any (NamesOne l.config u) l.tuples
