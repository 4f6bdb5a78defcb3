-- Sets of ids, as lists of numbers.
use Rattle.std.specs.Prelude.{◌≡◌, ℕ, ◌<◌, ◌≤◌, Bool, true, List, nat_eq, Option, Some, None}
use Rattle.std.specs.List.{list_any}
use Rattle.std.specs.List.Sorted.{IsStrictlyIncreasing}

-- the id is one of them
abbrev pub has : List ℕ → ℕ → Bool
has ids id = list_any (nat_eq id) ids

-- an id of them that is not below this one, and no other such id is below it
pub record IsFirst (ids : List ℕ) (id first : ℕ) : Type 0 where
  pub there : has ids first ≡ true
  pub from : id ≤ first
  pub least : (other : ℕ) → has ids other ≡ true → id ≤ other → first ≤ other

-- the first of the ids that is not below this one, where there is one
abbrev pub IsLeastFrom : List ℕ → ℕ → Option ℕ → Type 0
IsLeastFrom ids id None = (other : ℕ) → has ids other ≡ true → other < id
IsLeastFrom ids id (Some first) = IsFirst ids id first

-- a set that is searched, and how often it was
pub record Sought : Type 0 where
  pub ids : List ℕ
  pub seeks : ℕ

-- ids in ascending order are told by which they are
abbrev pub SetsAreOne : Type 0
SetsAreOne = (a b : List ℕ) → IsStrictlyIncreasing a → IsStrictlyIncreasing b → ((id : ℕ) → has a id ≡ has b id) → a ≡ b
