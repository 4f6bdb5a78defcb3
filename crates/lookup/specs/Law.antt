-- What holds of lookups.
use Rattle.std.specs.Prelude.{◌≡◌, ℕ, List, Contains}
use Rattle.names.specs.declared.object.Object.{Object}
use Rattle.names.specs.declared.node.Node.{Node}
use Rattle.meaning.specs.Config.{Defined, IsWhole}
use Rattle.meaning.specs.Snap.{Snap}
use Rattle.meaning.specs.Membership.{IsMember, IsKnown}
use Rattle.lookup.specs.declared.asked.Lookup.{Lookup}
use Rattle.lookup.specs.Found.{IsLookup}

-- Where no intersection is empty, an object that no tuple is of has no users.
abbrev pub OnlyKnownHaveUsers : Type 0
OnlyKnownHaveUsers = (S : Snap) (u : Object) (n : Node) → ((d : Defined) → Contains S.config.relations d → IsWhole d.form) → IsMember S u n → IsKnown S n

-- A lookup has one answer.
abbrev pub LookupsAreOne : Type 0
LookupsAreOne = (S : Snap) (asked : Lookup) (one other : List (List ℕ)) → IsLookup S asked one → IsLookup S asked other → one ≡ other
