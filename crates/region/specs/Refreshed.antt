-- What a refresh was told, and what is kept then.
use Rattle.std.specs.Prelude.{ℕ, ◌≡◌, true, ◌⊎◌, List, ◌++◌, nat_eq}
use Rattle.std.specs.List.{IsDistinct}
use Rattle.least_sets.specs.World.{Fact}
use Rattle.least_sets.specs.Least.{IsLevelled}
use Rattle.least_sets.specs.Walks.{arc_of, IsReached, IsTouched}
use Rattle.region.specs.declared.rule.Told.{Told}
use Rattle.region.specs.Steps.{is_told, Tells, AreTold}
use Rattle.region.specs.Tables.{Rows, kept, arc_in}
use Rattle.region.specs.Sets.{IsHeld}
use Rattle.region.specs.Gathered.{nodes_of, IsTurned, IsSameElsewhere}

-- Each node asked was told of, and only what is new or touched. In each world that is as told and elsewhere as it was, what is kept
-- is the roots and all that they depend on, with their least sets. There is a world that is as told.
pub record IsRefreshed (tells : ℕ → Fact → Type 0) (old new : Rows) (roots turned changed asked asked' : List ℕ) : Type 0 where
  pub told : List Told
  pub are_told : AreTold tells told
  pub some : (world : ℕ → Fact) × Tells world told
  pub asked_is : asked' ≡ asked ++ nodes_of told
  pub once : IsDistinct nat_eq (nodes_of told)
  pub few : (n : ℕ) → is_told told n ≡ true → (kept new n ≡ true) × ((kept old n ≡ true) → IsTouched (arc_in old) changed n)
  pub nodes : (n : ℕ) → kept new n ≡ true → (is_told told n ≡ true) ⊎ ((kept old n ≡ true) × (IsTouched (arc_in old) changed n → ⊥))
  pub arcs : (world : ℕ → Fact) → Tells world told → (n m : ℕ) → is_told told n ≡ true → arc_of world n m ≡ true → kept new m ≡ true
  pub reached : (world : ℕ → Fact) → Tells world told → (n : ℕ) → is_told told n ≡ true → IsReached (arc_of world) roots n
  pub held : (before world : ℕ → Fact) (first : List ℕ) → IsLevelled world → Tells world told
      → IsHeld before first old → IsTurned first roots turned → IsSameElsewhere before world old changed → IsHeld world roots new
