-- Steps of a desk that agrees with its publication.
use Rattle.std.proofs.Common.{◌≡◌, List, [], ◌∷◌, ◌++◌, ap, sym, ◌∙◌}
use Rattle.shown.specs.declared.step.Step.{Step}
use Rattle.shown.specs.Standing.{Standing, after_step, standing}
use Rattle.published.proofs.Standings.{standing_next}

pub agrees_after : (own own' : Standing) (posted posted' : List Step) (step : Step) → own ≡ standing posted → own' ≡ after_step own step → posted' ≡ posted ++ step ∷ [] → own' ≡ standing posted'
agrees_after own own' posted posted' step agrees after more =
    after ∙ (ap (λ (s : Standing). after_step s step) agrees ∙ (sym (standing_next posted step) ∙ ap standing (sym more)))
