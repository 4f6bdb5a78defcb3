-- Which lists of steps can be published.
use Rattle.std.specs.Prelude.{List, [], ◌∷◌}
use Rattle.shown.specs.declared.step.Step.{Step}
use Rattle.shown.specs.Standing.{Standing, nothing, after_step, HasRoom}
use Rattle.published.specs.Posts.{IsLater}

-- each step is no opening, and has room on what those before it left
abbrev pub AreLater : Standing → List Step → Type 0
AreLater s [] = Unit {0}
AreLater s (step ∷ steps) = IsLater step × HasRoom s step × AreLater (after_step s step) steps

-- There is a first step, which has room on nothing, as an opening within the limits has. Each step after it is no opening,
-- and has room on what those before it left.
abbrev pub AreJudged : List Step → Type 0
AreJudged [] = ⊥
AreJudged (first ∷ steps) = HasRoom nothing first × AreLater (after_step nothing first) steps

-- all that is posted was judged, and all of it that is shown
pub record WereJudged (posted shown : List Step) : Type 0 where
  pub posted_were : AreJudged posted
  pub shown_were : AreJudged shown
