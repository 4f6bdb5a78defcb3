-- Adding what is told of nodes, a node at a time, in any order.
use Rattle.std.specs.Prelude.{◌⊎◌, ℕ, ◌+◌, ◌^◌, ◌≡◌, ◌<◌, Bool, true, false, not, ◌&&◌, ◌||◌, nat_eq, nat_lt, List, [], ◌∷◌, Some}
use Rattle.std.specs.List.{list_any, slice_get}
use Rattle.least_sets.specs.World.{Fact, has, arcs_of}
use Rattle.least_sets.specs.Steps.{given, IsStepAt, free}
use Rattle.region.specs.declared.rule.Told.{Told}
use Rattle.region.specs.Rules.{fact_of, shape_of}

abbrev pub is_told : List Told → ℕ → Bool
is_told told node = list_any (λ t. nat_eq node t.node) told

-- the world is as told
abbrev pub Tells : (ℕ → Fact) → List Told → Type 0
Tells world [] = Unit {0}
Tells world (t ∷ ts) = (world t.node ≡ fact_of t) × Tells world ts

-- what was told of each node may be told of it
abbrev pub AreTold : (ℕ → Fact → Type 0) → List Told → Type 0
AreTold tells [] = Unit {0}
AreTold tells (t ∷ ts) = tells t.node (fact_of t) × AreTold tells ts

-- nodes were told of, and a fact holds in each world that is as told; there is one
pub record InEachTold (tells : ℕ → Fact → Type 0) (P : (ℕ → Fact) → Type 0) : Type 0 where
  pub told : List Told
  pub are_told : AreTold tells told
  pub some : (world : ℕ → Fact) × Tells world told
  pub each : (world : ℕ → Fact) → Tells world told → P world

-- nothing is left to add at a node
abbrev pub IsSettledAt : Told → (ℕ → ℕ → Bool) → Type 0
IsSettledAt t sets = (user : ℕ) → given (fact_of t) sets user ≡ true → sets user t.node ≡ true

-- a user of 64 bits was added to the node
abbrev pub Gains : ℕ → (ℕ → ℕ → Bool) → (ℕ → ℕ → Bool) → Type 0
Gains node before after = (user : ℕ) × (user < 2 ^ 64) × (before user node ≡ false) × (after user node ≡ true)

-- a step at a node of the level by which it gains a user
pub record IsTurn (t : Told) (level : ℕ) (before after : ℕ → ℕ → Bool) : Type 0 where
  pub at : t.level ≡ level
  pub step : IsStepAt (fact_of t) t.node before after
  pub gains : Gains t.node before after

-- nothing is left to add at a level
abbrev pub IsSettled : List Told → ℕ → (ℕ → ℕ → Bool) → Type 0
IsSettled told level sets = (i : ℕ) (t : Told) → slice_get told i ≡ Some t → t.level ≡ level → IsSettledAt t sets

-- how many users the nodes do not hold
abbrev pub rooms : List Told → (ℕ → ℕ → Bool) → ℕ
rooms [] sets = 0
rooms (t ∷ ts) sets = free (2 ^ 64) (λ user. sets user t.node) + rooms ts sets

-- each node of the level waits to be looked at, by its place in the list, or is settled
abbrev pub IsWaiting : List Told → ℕ → (ℕ → ℕ → Bool) → (ℕ → Bool) → Type 0
IsWaiting told level sets waits = (i : ℕ) (t : Told) → slice_get told i ≡ Some t → t.level ≡ level → (waits i ≡ true) ⊎ IsSettledAt t sets

-- a table leads from each node that one of the first rules names to the rule's place
abbrev pub AreNamed : ℕ → List Told → (ℕ → ℕ → Bool) → Type 0
AreNamed count told back = (i : ℕ) (t : Told) → i < count → slice_get told i ≡ Some t → (m : ℕ) → has (arcs_of (shape_of t.rule)) m ≡ true → back m i ≡ true

-- a table leads from the level of each of the first nodes to its place
abbrev pub AreGrouped : ℕ → List Told → (ℕ → ℕ → Bool) → Type 0
AreGrouped count told groups = (i : ℕ) (t : Told) → i < count → slice_get told i ≡ Some t → groups t.level i ≡ true

-- a place waits, and comes before another: places are looked at from the last on
abbrev pub is_to_come : List ℕ → ℕ → ℕ → Bool
is_to_come waiting place i = nat_lt i place && has waiting i

-- a look at a place, by which those that name its node wait if the node gained a user, but for those that are still to come
pub data IsLook (told : List Told) (i level : ℕ) (back : ℕ → ℕ → Bool) (to_come : ℕ → Bool) (before : ℕ → ℕ → Bool) (next : ℕ → Bool) (after : ℕ → ℕ → Bool) (later : ℕ → Bool) : Type 0 where
  passed : ((t : Told) → slice_get told i ≡ Some t → t.level ≡ level → IsSettledAt t before) → after ≡ before → later ≡ next → IsLook told i level back to_come before next after later
  gained : (t : Told) → slice_get told i ≡ Some t → IsTurn t level before after → ((n : ℕ) → later n ≡ (next n || (back t.node n && not (to_come n)))) → IsLook told i level back to_come before next after later
