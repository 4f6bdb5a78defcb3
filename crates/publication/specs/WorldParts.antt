-- How the parts of the machine of publication hang together.
use Rattle.std.specs.Prelude.{◌≡◌, ◌≤◌, ℕ, List, [], ◌∷◌, ◌++◌, length, take, map}
use Rattle.meaning.specs.History.{History}
use Rattle.rows.specs.Retained.{Retained}
use Rattle.shown.specs.declared.step.Step.{Step}
use Rattle.shown.specs.declared.step.Step.TheVariants.{Commit}
use Rattle.shown.specs.Standing.{Standing, nothing, after_step, standing, HasRoom}

-- each step has room after those before it
abbrev pub HaveRoom : Standing → List Step → Type 0
HaveRoom s [] = Unit {0}
HaveRoom s (step ∷ steps) = HasRoom s step × HaveRoom (after_step s step) steps

-- the posted steps, and then those of the commits that wait
abbrev pub all_steps : List Step → History → List Step
all_steps posted waiting = posted ++ map (λ c. Commit c) waiting

pub record Fit
    (posted : List Step) (waiting : History) (newest : Retained) (shown : ℕ)
    (published : Standing) : Type 0 where
  pub room : HaveRoom nothing (all_steps posted waiting)
  pub stored : newest ≡ (standing (all_steps posted waiting)).kept
  pub unopened : posted ≡ [] → waiting ≡ []
  pub within : shown ≤ length posted
  pub stands : published ≡ standing (take shown posted)
