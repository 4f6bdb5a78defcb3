-- Users and the groups that name them, by numbers.
use Rattle.std.specs.Prelude.{ℕ, ◌≡◌, ◌<◌, true, List, Some, length}
use Rattle.std.specs.List.{slice_get}
use Rattle.names.specs.declared.object.Object.{Object}
use Rattle.names.specs.declared.node.Node.{Node}
use Rattle.names.specs.declared.tuple.Tuple.{Tuple}
use Rattle.meaning.specs.Config.{Configured}
use Rattle.meaning.specs.Snap.{one}
use Rattle.idsets.specs.Sets.{has}
use Rattle.leopard.specs.Groups.{IsGroup}

-- a group names a user by the tuple, and no userset
abbrev pub IsDirect : Configured → Tuple → Type 0
IsDirect config t = IsGroup config t.node × (t.subject ≡ one t.subject.object)

-- the set at the user's number has the group's number
pub record Names (users : List Object) (groups : List Node) (sets : ℕ → List ℕ) (u : Object) (n : Node) : Type 0 where
  pub user : ℕ
  pub group : ℕ
  pub user_is : slice_get users user ≡ Some u
  pub group_is : slice_get groups group ≡ Some n
  pub there : has (sets user) group ≡ true

-- each number that is kept stands for a name
abbrev pub AreWithin : List Object → List Node → (ℕ → List ℕ) → Type 0
AreWithin users groups sets = (user group : ℕ) → has (sets user) group ≡ true → (user < length users) × (group < length groups)
