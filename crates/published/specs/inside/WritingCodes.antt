-- What contracts see of publishers as numbers, by which their values are told apart.
use Rattle.std.specs.Prelude.{List, Option, refl}
use Rattle.std.specs.Coded.{Coded, code_by, coded×, coded_list, coded_option}
use Rattle.shown.specs.declared.step.Step.{Step}
use Rattle.shown.specs.contracts.step.Step as step_row
use Rattle.shown.specs.Standing.{Standing}
use Rattle.shown.specs.inside.Codes.{coded_standing}
use Rattle.published.specs.Known.{Known}
use Rattle.published.specs.Copies.{Copy, Posted}
use Rattle.published.specs.inside.Codes.{coded_known}
use Rattle.published.specs.Writing.{Writing}

abbrev pub coded_copy : Coded Copy
coded_copy =
    code_by (Standing × Known) (coded× coded_standing coded_known)
    (λ c. (c.shown, c.prefix)) (λ p. record { shown = p.0; prefix = p.1 }) (λ _. refl)

abbrev pub coded_posted : Coded Posted
coded_posted =
    code_by (Step × Known) (coded× step_row.the_row.coded coded_known)
    (λ p. (p.step, p.after)) (λ p. record { step = p.0; after = p.1 }) (λ _. refl)

abbrev pub coded_writing : {C O : Type 0} → Coded C → Coded O → Coded (Writing C O)
coded_writing {C} {O} copies posts =
    code_by (C × (List O × Option Known))
    (coded× copies (coded× (coded_list posts) (coded_option coded_known)))
    (λ w. (w.published, (w.waiting, w.told)))
    (λ p. record { published = p.0; waiting = p.1.0; told = p.1.1 }) (λ _. refl)
