-- Sets of objects, and the members among them.
use Rattle.std.specs.Prelude.{◌≡◌, ◌↔◌, ◌⊎◌, List, Contains}
use Rattle.names.specs.declared.object.Object.{Object}
use Rattle.names.specs.declared.node.Node.{Node}
use Rattle.meaning.specs.Membership.{IsMember}
use Rattle.meaning.specs.Snap.{Snap}

-- the set has gained the object
abbrev pub GainsObject : List Object → List Object → Object → Type 0
GainsObject old new object = (o : Object) → Contains new o ↔ (Contains old o ⊎ (object ≡ o))

-- the members are those of the users that are members of the node
abbrev pub AreMembersAmong : Snap → Node → List Object → List Object → Type 0
AreMembersAmong S n users members = (u : Object) → Contains members u ↔ (Contains users u × IsMember S u n)
