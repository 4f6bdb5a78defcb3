-- What contracts see of desks as numbers, by which their values are told apart.
use Rattle.std.specs.Prelude.{ℕ, Bool, List, refl}
use Rattle.std.specs.Coded.{Coded, code_by, coded×, coded_ℕ, coded_bool}
use Rattle.logbook.specs.Pages.{Book}
use Rattle.shown.specs.declared.step.Step.{Step}
use Rattle.published.specs.inside.Codes.{coded_book, coded_steps}
use Rattle.desk.specs.Posts.{Posts}

abbrev pub coded_posts : {T : Type 0} → Coded T → Coded (Posts T)
coded_posts {T} code =
    code_by (T × (Book × (List Step × (List Step × (Bool × (ℕ × ℕ))))))
    (coded× code (coded× coded_book (coded× coded_steps (coded× coded_steps (coded× coded_bool (coded× coded_ℕ coded_ℕ))))))
    (λ d. (d.tables, (d.book, (d.posted, (d.shown, (d.failed, (d.faults, d.seats)))))))
    (λ p. record {
      tables = p.0;
      book = p.1.0;
      posted = p.1.1.0;
      shown = p.1.1.1.0;
      failed = p.1.1.1.1.0;
      faults = p.1.1.1.1.1.0;
      seats = p.1.1.1.1.1.1;
    }) (λ _. refl)
