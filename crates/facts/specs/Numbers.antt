-- Numbers of nodes and of users.
use Rattle.std.specs.Prelude.{ℕ, ◌≡◌, true, List, [], ◌∷◌, ◌++◌, Some, slice_index_or}
use Rattle.std.specs.List.{slice_get}
use Rattle.names.specs.declared.object.Object.{Object}
use Rattle.names.specs.declared.node.Node.{Node}
use Rattle.least_sets.specs.World.{has}

-- names were added at the end of a table: each name that had a number has it still
abbrev pub Grew : {N : Type 0} → List N → List N → Type 0
Grew {N} old new = (more : List N) × (new ≡ old ++ more)

-- the numbers are those of exactly the names for which P holds
pub record AreNumbersOf {N : Type 0} (table : List N) (ids : List ℕ) (P : N → Type 0) : Type 0 where
  pub sound : (i : ℕ) → has ids i ≡ true → (n : N) × P n × (slice_get table i ≡ Some n)
  pub complete : (n : N) → P n → (i : ℕ) × (has ids i ≡ true) × (slice_get table i ≡ Some n)

-- longer than the id of each object
abbrev pub longer : List Object → List ℕ
longer [] = []
longer (o ∷ os) = 0 ∷ (o.id ++ longer os)

-- an object that has no number
abbrev pub fresh : List Object → Object
fresh users = record { namespace = []; id = longer users }

-- what a number stands for; past the table, something that has no number
abbrev pub user_at : List Object → ℕ → Object
user_at users i = slice_index_or users i (fresh users)

abbrev pub node_at : List Node → ℕ → Node
node_at nodes i = slice_index_or nodes i (record { object = record { namespace = []; id = [] }; relation = [] })
