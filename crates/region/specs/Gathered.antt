-- What was gathered for a refresh.
use Rattle.std.specs.Prelude.{ℕ, ◌≡◌, Bool, true, false, not, ◌&&◌, ◌||◌, ◌⊎◌, List, ◌++◌, map, nat_eq}
use Rattle.std.specs.List.{IsDistinct}
use Rattle.least_sets.specs.World.{Fact, has}
use Rattle.least_sets.specs.Walks.{arc_of, IsReached, IsTouched}
use Rattle.region.specs.declared.rule.Told.{Told}
use Rattle.region.specs.Steps.{is_told, Tells}
use Rattle.region.specs.Tables.{Rows, kept, arc_in}

abbrev pub nodes_of : List Told → List ℕ
nodes_of told = map (λ t. t.node) told

-- a kept node whose row is not dropped
abbrev pub stays : Rows → List ℕ → ℕ → Bool
stays old dropped n = kept old n && not (has dropped n)

abbrev pub in_region : Rows → List ℕ → List Told → ℕ → Bool
in_region old dropped told n = stays old dropped n || is_told told n

-- each kept node is reached from the roots, along the arcs that are kept
abbrev pub AreReached : Rows → List ℕ → Type 0
AreReached rows roots = (n : ℕ) → kept rows n ≡ true → IsReached (arc_in rows) roots n

-- the other nodes are roots now where they were before
abbrev pub IsTurned : (before now turned : List ℕ) → Type 0
IsTurned before now turned = (n : ℕ) → has turned n ≡ false → has now n ≡ has before n

-- each node that the roots depend on is told of or stays as it was; a node is told of only if it is new or touched, and the roots depend on it
pub record IsGathered (world : ℕ → Fact) (old : Rows) (roots turned changed : List ℕ) (told : List Told) (dropped : List ℕ) : Type 0 where
  pub tells : Tells world told
  pub new_or_touched : (n : ℕ) → is_told told n ≡ true → (kept old n ≡ true) → IsTouched (arc_in old) changed n
  pub apart : (n : ℕ) → stays old dropped n ≡ true → is_told told n ≡ false
  pub untouched : (n : ℕ) → stays old dropped n ≡ true → (kept old n ≡ true) × (has changed n ≡ false)
  pub stay_arcs : (n m : ℕ) → stays old dropped n ≡ true → arc_in old n m ≡ true → stays old dropped m ≡ true
  pub from_roots : (n : ℕ) → has roots n ≡ true → (kept old n ≡ true) ⊎ (has turned n ≡ true) → in_region old dropped told n ≡ true
  pub told_arcs : (n m : ℕ) → is_told told n ≡ true → arc_of world n m ≡ true → in_region old dropped told m ≡ true
  pub reached : (n : ℕ) → is_told told n ≡ true → IsReached (arc_of world) roots n
  pub stay_reached : (before : List ℕ) → AreReached old before → IsTurned before roots turned
      → ((n m : ℕ) → stays old dropped n ≡ true → arc_in old n m ≡ true → arc_of world n m ≡ true)
      → (n : ℕ) → stays old dropped n ≡ true → IsReached (arc_of world) roots n

-- it was gathered in some world, for some roots and a change
abbrev pub WasGathered : Rows → List Told → List ℕ → Type 0
WasGathered old told dropped = (world : ℕ → Fact) × (roots : List ℕ) × (turned : List ℕ) × (changed : List ℕ) × IsGathered world old roots turned changed told dropped

-- each node told of was asked once
pub record IsAskedOnce (told : List Told) (before after : List ℕ) : Type 0 where
  pub asked : after ≡ before ++ nodes_of told
  pub once : IsDistinct nat_eq (nodes_of told)

-- the two worlds have the same facts of each kept node that is not touched
abbrev pub IsSameElsewhere : (before now : ℕ → Fact) → Rows → List ℕ → Type 0
IsSameElsewhere before now old changed =
    (n : ℕ) → kept old n ≡ true → (IsTouched (arc_in old) changed n → ⊥) → now n ≡ before n

-- who was asked: each once, and only what is kept now, and of that only what is new or touched
pub record IsAskedFew (old new : Rows) (changed before after : List ℕ) : Type 0 where
  pub nodes : List ℕ
  pub asked : after ≡ before ++ nodes
  pub once : IsDistinct nat_eq nodes
  pub few : (n : ℕ) → has nodes n ≡ true → (kept new n ≡ true) × ((kept old n ≡ true) → IsTouched (arc_in old) changed n)

-- who was asked, where it ended before all were: each once, only what the roots reach, and of that only what is new or touched
pub record IsAskedSome (world : ℕ → Fact) (old : Rows) (roots changed before after : List ℕ) : Type 0 where
  pub nodes : List ℕ
  pub asked : after ≡ before ++ nodes
  pub once : IsDistinct nat_eq nodes
  pub few : (n : ℕ) → has nodes n ≡ true → (kept old n ≡ true) → IsTouched (arc_in old) changed n
  pub reached : (n : ℕ) → has nodes n ≡ true → IsReached (arc_of world) roots n
