use Rattle.std.specs.Prelude.{◌↔◌, ◌⊎◌, Any, Contains}
use Rattle.names.specs.declared.object.Object.{Object}
use Rattle.plain.specs.inside.Source.{Names}
use Rattle.plain.proofs.membership.users_of.Given as goal

-- the users so far, and those of what is left
abbrev pub invariant-loop-tuple : goal.invariant-loop-tuple
invariant-loop-tuple l = (u : Object) → (Contains l.users.keys u ⊎ Any (Names u) l.tuple-iterator) ↔ Any (Names u) l.tuples.keys
