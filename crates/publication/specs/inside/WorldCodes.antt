-- A state of the machine as numbers, by which its values are told apart.
use Rattle.std.specs.Prelude.{ℕ, List, refl}
use Rattle.std.specs.Coded.{Coded, code_by, coded×, coded_ℕ, coded_list}
use Rattle.rows.specs.Retained.{Retained}
use Rattle.rows.specs.inside.Codes.{coded_retained}
use Rattle.shown.specs.declared.step.Step.{Step}
use Rattle.shown.specs.contracts.step.Step as step_row
use Rattle.publication.specs.World.{State}

abbrev pub coded_state : Coded State
coded_state =
    code_by (Retained × (List Step × ℕ)) (coded× coded_retained (coded× (coded_list step_row.the_row.coded) coded_ℕ))
    (λ s. (s.stored, (s.posted, s.shown)))
    (λ p. record { stored = p.0; posted = p.1.0; shown = p.1.1 }) (λ _. refl)
