use Rattle.std.proofs.Common.{◌≡◌, ℕ, Any, drop, length}
use Rattle.std.specs.Prelude.{◌↔◌, ◌⊎◌}
use Rattle.names.specs.declared.object.Object.{Object}
use Rattle.leopard.specs.inside.Building.{HasId, Tells, AreAscending}
use Rattle.leopard.proofs.members.direct_of.Given as goal

abbrev pub invariant-loop-tuple : goal.invariant-loop-tuple
invariant-loop-tuple l = record {
  even : length l.sets.items ≡ length l.users;
  ascending : AreAscending l.sets.items;
  told : (u : Object) (id : ℕ) → (HasId l.users l.sets.items u id ⊎ Any (Tells l.config l.groups u id) (drop l.tuple-index l.tuples)) ↔ Any (Tells l.config l.groups u id) l.tuples;
}
