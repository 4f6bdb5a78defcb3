use Rattle.std.specs.Prelude.{◌↔◌, ◌⊎◌, Any, Contains}
use Rattle.names.specs.declared.object.Object.{Object}
use Rattle.plain.specs.inside.Source.{snap_of}
use Rattle.plain.proofs.OrderedSets.{Joins}
use Rattle.plain.proofs.membership.members_among.Given as goal

-- the members so far, and those among what is left
abbrev pub invariant-loop-user : goal.invariant-loop-user
invariant-loop-user l = (u : Object) → (Contains l.members.keys u ⊎ Any (Joins (snap_of l.source) l.node u) l.user-iterator) ↔ Any (Joins (snap_of l.source) l.node u) l.users.keys
