-- The rule over the published copy, and what its two steps tell.
use Rattle.std.specs.Prelude.{◌≡◌, ℕ, List, [], ◌∷◌, Option, Some, None}
use mathlib.Core.Option.{some}
use lib.ListN.{get_elem?}
use Rattle.shown.specs.Standing.{Standing, after_step, standing}
use Rattle.shown.specs.declared.step.Step.{Step}
use Rattle.published.specs.Known.{Known, next_of, Begins}
use Rattle.published.specs.Judged.{AreJudged}

-- a copy of the state, and the steps that it stands for
pub record Copy : Type 0 where
  pub shown : Standing
  pub prefix : Known

-- a step, and the list that it ends
pub record Posted : Type 0 where
  pub step : Step
  pub after : Known

-- the copy after one post
abbrev pub absorbed : Copy → Posted → Copy
absorbed c p = record { shown = after_step c.shown p.step; prefix = p.after }

-- the state is the standing of the copy's steps, and they were judged
abbrev pub Stands : Copy → Type 0
Stands c = (c.shown ≡ standing c.prefix.steps) × AreJudged c.prefix.steps

-- one who knows nothing yet, or whose list the other begins with
abbrev pub KnowsNoMore : Option Known → Known → Type 0
KnowsNoMore None l = Unit {0}
KnowsNoMore (Some k) l = Begins k l

-- the copy stands for its list, and that list begins with what each knows
abbrev pub Keeps : Copy → List (Option Known) → Type 0
Keeps x views =
    Stands x
    × ((seat : ℕ) (v : Option Known) → get_elem? views seat ≡ some v → KnowsNoMore v x.prefix)

-- The copy y is seen, which stands for its list. The list begins with what was known, and is known from
-- then on.
abbrev pub Sees : Option Known → Copy → Copy → Option Known → Type 0
Sees v x y w = Stands y × KnowsNoMore v y.prefix × (w ≡ Some y.prefix)

-- the posts lead from one list to another, one step each
abbrev pub Chain : Known → List Posted → Known → Type 0
Chain k [] end = k ≡ end
Chain k (p ∷ posts) end = (p.after ≡ next_of k p.step) × Chain p.after posts end
