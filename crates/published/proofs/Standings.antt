-- What a step adds to a standing.
use Rattle.std.proofs.Common.{◌≡◌, List, [], ◌∷◌, ◌++◌}
use Rattle.std.proofs.lemmas.List.Sums.{fold-append}
use Rattle.shown.specs.declared.step.Step.{Step}
use Rattle.shown.specs.Standing.{nothing, after_step, standing}

pub standing_next : (steps : List Step) (step : Step) → standing (steps ++ step ∷ []) ≡ after_step (standing steps) step
standing_next steps step = fold-append after_step nothing steps (step ∷ [])
