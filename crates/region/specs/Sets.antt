-- What is kept of a world.
use Rattle.std.specs.Prelude.{ℕ, ◌≡◌, true, List}
use Rattle.least_sets.specs.World.{Fact, has}
use Rattle.least_sets.specs.Least.{IsLeastIn}
use Rattle.least_sets.specs.Walks.{arc_of, IsReached}
use Rattle.region.specs.declared.sets.Sets.{Sets}
use Rattle.region.specs.Tables.{Rows, kept, arc_in, holds, IsClosed, IsBacked}

-- exactly the roots and all that they depend on are kept, with their least sets
pub record IsHeld (world : ℕ → Fact) (roots : List ℕ) (sets : Rows) : Type 0 where
  pub from_roots : (n : ℕ) → has roots n ≡ true → kept sets n ≡ true
  pub reached : (n : ℕ) → kept sets n ≡ true → IsReached (arc_of world) roots n
  pub arcs : (n m : ℕ) → kept sets n ≡ true → arc_in sets n m ≡ arc_of world n m
  pub closed : IsClosed sets
  pub least : (user : ℕ) → IsLeastIn world (kept sets) user (holds sets user)

-- what each table of what is kept says of the other
pub record IsWhole (sets : Sets) : Type 0 where
  pub closed : IsClosed sets.rows
  pub backed : IsBacked sets.rows sets.back
