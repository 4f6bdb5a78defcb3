-- A walk that asks. No promise rests on it.
use Rattle.std.specs.Prelude.{ℕ, ◌≡◌, Bool, true, false, not, ◌&&◌, ◌||◌, List, ◌∷◌, [], ◌++◌, nat_eq}
use Rattle.std.specs.List.{IsDistinct}
use Rattle.least_sets.specs.World.{Fact, has, arcs_of}
use Rattle.least_sets.specs.Walks.{Adds, arc_of, IsReached}
use Rattle.region.specs.declared.rule.Told.{Told}
use Rattle.region.specs.Rules.{fact_of, shape_of}
use Rattle.region.specs.Steps.{is_told, Tells, AreTold}
use Rattle.region.specs.Tables.{Rows}
use Rattle.region.specs.Gathered.{stays}

-- a node is asked for
pub record IsVisit (tells : ℕ → Fact → Type 0) (old : Rows) (touched : List ℕ) (node : ℕ) (found : List ℕ) (told : List Told) (asked : List ℕ) (found' : List ℕ) (told' : List Told) (asked' : List ℕ) : Type 0 where
  pub t : Told
  pub node_is : t.node ≡ node
  pub fact_is : tells node (fact_of t)
  pub told_is : told' ≡ told ++ t ∷ []
  pub asked_is : asked' ≡ asked ++ node ∷ []
  pub adds : Adds found found' (λ u. has (arcs_of (shape_of t.rule)) u && not (stays old touched u))

-- all that the roots depend on and that does not stay is told of
pub record IsWalked (world : ℕ → Fact) (old : Rows) (touched roots turned : List ℕ) (told : List Told) : Type 0 where
  pub tells : Tells world told
  pub needed : (n : ℕ) → is_told told n ≡ true → stays old touched n ≡ false
  pub from_roots : (n : ℕ) → has roots n ≡ true → (has turned n || has touched n) ≡ true → stays old touched n ≡ false → is_told told n ≡ true
  pub told_arcs : (n m : ℕ) → is_told told n ≡ true → arc_of world n m ≡ true → stays old touched m ≡ false → is_told told m ≡ true
  pub reached : (n : ℕ) → is_told told n ≡ true → IsReached (arc_of world) roots n

-- it is walked in each world that is as told, and there is one
pub record IsWalkedTold (tells : ℕ → Fact → Type 0) (old : Rows) (touched roots turned : List ℕ) (told : List Told) : Type 0 where
  pub are_told : AreTold tells told
  pub some : (world : ℕ → Fact) × Tells world told
  pub each : (world : ℕ → Fact) → Tells world told → IsWalked world old touched roots turned told

-- some nodes that do not stay and that the roots reach were asked, each once
pub record IsAskedSomeOf (world : ℕ → Fact) (roots : List ℕ) (stays : ℕ → Bool) (before after : List ℕ) : Type 0 where
  pub nodes : List ℕ
  pub asked : after ≡ before ++ nodes
  pub once : IsDistinct nat_eq nodes
  pub needed : (n : ℕ) → has nodes n ≡ true → stays n ≡ false
  pub reached : (n : ℕ) → has nodes n ≡ true → IsReached (arc_of world) roots n
