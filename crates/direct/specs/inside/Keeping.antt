-- What tuples and events tell of users and groups by their numbers.
use Rattle.std.specs.Prelude.{ℕ, ◌≡◌, ◌&&◌, ◌↔◌, Bool, List, Option, Some, None, Contains}
use Rattle.std.specs.List.{slice_get}
use Rattle.names.specs.declared.object.Object.{Object}
use Rattle.names.specs.declared.node.Node.{Node}
use Rattle.names.specs.declared.tuple.Tuple.{Tuple}
use Rattle.meaning.specs.TupleSet as set
use Rattle.meaning.specs.TupleSet.{Tuples}
use Rattle.meaning.specs.Config.{Configured, rel_of}
use Rattle.meaning.specs.Snap.{one}
use Rattle.config.specs.Valid.{is_indexed}
use Rattle.idsets.specs.Sets.{has}
use Rattle.facts.specs.Numbers.{Grew}
use Rattle.leopard.specs.Groups.{IsGroup}
use Rattle.direct.specs.Named.{IsDirect, Names, AreWithin}
use Rattle.direct.specs.Before.{set_in}
use Rattle.direct.specs.declared.memberships.Memberships.{Memberships}
use Rattle.direct.specs.declared.memberships.Membership.{Membership}

-- more users and groups may have numbers, and what is kept is what it was
pub record IsMore (old new : Memberships) : Type 0 where
  pub users : Grew old.users new.users
  pub groups : Grew old.groups new.groups
  pub sets : (user : ℕ) → set_in new.sets.items user ≡ set_in old.sets.items user

-- the numbers stand for the tuple's user and its group
pub record HasNumbers (kept : Memberships) (t : Tuple) (m : Membership) : Type 0 where
  pub user : slice_get kept.users m.user ≡ Some t.subject.object
  pub group : slice_get kept.groups m.group ≡ Some t.node

-- they are given where a group names a user by the tuple
abbrev pub AreNumbers : Configured → Memberships → Tuple → Option Membership → Type 0
AreNumbers config kept t None = ¬ (IsDirect config t)
AreNumbers config kept t (Some m) = IsDirect config t × HasNumbers kept t m

-- the same, as far as they are there
abbrev pub AreFound : Configured → Memberships → Tuple → Option Membership → Type 0
AreFound config kept t None = IsDirect config t → (m : Membership) → ¬ (HasNumbers kept t m)
AreFound config kept t (Some m) = IsDirect config t × HasNumbers kept t m

-- the tuple by which the group names the user
abbrev pub tuple_of : Object → Node → Tuple
tuple_of u n = record { node = n; subject = one u }

-- what is kept is what the tuples tell
pub record AreKept (config : Configured) (ts : List Tuple) (kept : Memberships) : Type 0 where
  pub names : (u : Object) (n : Node) → Names kept.users kept.groups (set_in kept.sets.items) u n ↔ (IsGroup config n × Contains ts (tuple_of u n))
  pub within : AreWithin kept.users kept.groups (set_in kept.sets.items)

-- whether by the tuples the group names the user
abbrev pub names_by : Configured → Tuples → Object → Node → Bool
names_by config tuples u n = is_indexed config (rel_of n) && set.contains tuples (tuple_of u n)

-- of those with numbers the sets are what the tuples tell, and no others are kept
pub record AreRight (config : Configured) (kept : Memberships) (sets : ℕ → List ℕ) (tuples : Tuples) : Type 0 where
  pub right : (u : Object) (n : Node) (user group : ℕ) → slice_get kept.users user ≡ Some u → slice_get kept.groups group ≡ Some n
      → has (sets user) group ≡ names_by config tuples u n
  pub within : AreWithin kept.users kept.groups sets
