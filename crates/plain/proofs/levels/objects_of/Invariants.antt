use Rattle.std.specs.Prelude.{◌↔◌, ◌⊎◌, Any, Contains}
use Rattle.names.specs.declared.object.Object.{Object}
use Rattle.plain.specs.inside.Source.{IsOf}
use Rattle.plain.proofs.levels.objects_of.Given as goal

-- the objects so far, and those of what is left
abbrev pub invariant-loop-tuple : goal.invariant-loop-tuple
invariant-loop-tuple l = (o : Object) → (Contains l.objects.items o ⊎ Any (IsOf o) l.tuple-iterator) ↔ Any (IsOf o) l.tuples.keys
