-- Users by their numbers.
use Rattle.std.specs.Prelude.{ℕ, ◌≡◌, true, List, Some, Contains, ◌↔◌}
use Rattle.std.specs.List.{slice_get, IsDistinct}
use Rattle.std.specs.Ordering.{eq_by_cmp}
use Rattle.names.specs.Order.{object_cmp}
use Rattle.names.specs.declared.object.Object.{Object}
use Rattle.least_sets.specs.World.{has}

-- the users are those with the numbers, each once
pub record AreNamed (table : List Object) (ids : List ℕ) (users : List Object) : Type 0 where
  pub exactly : (u : Object) → Contains users u ↔ ((i : ℕ) × (has ids i ≡ true) × (slice_get table i ≡ Some u))
  pub once : IsDistinct (eq_by_cmp object_cmp) users
