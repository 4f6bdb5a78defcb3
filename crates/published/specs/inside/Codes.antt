-- What contracts see of books, steps, prefixes, receipts and publications as numbers, by which their values
-- are told apart.
use Rattle.std.specs.Prelude.{ℕ, Bool, List, refl}
use Rattle.std.specs.Coded.{Coded, code_by, coded×, coded_ℕ, coded_bool, coded_list}
use Rattle.logbook.specs.Pages.{Book}
use Rattle.shown.specs.declared.step.Step.{Step}
use Rattle.shown.specs.contracts.step.Step as step_row
use Rattle.meaning.specs.Snap.{Snap}
use Rattle.meaning.specs.inside.Codes.{coded_snap}
use Rattle.published.specs.Known.{Known}
use Rattle.published.specs.Copied.{SnapCopy}
use Rattle.published.specs.Receipts.{ReceiptFacts}
use Rattle.published.specs.Publishing.{Publishing}

abbrev pub coded_book : Coded Book
coded_book =
    code_by (ℕ × (ℕ × ℕ)) (coded× coded_ℕ (coded× coded_ℕ coded_ℕ))
    (λ b. (b.number, (b.log_name, b.cells_name)))
    (λ p. record { number = p.0; log_name = p.1.0; cells_name = p.1.1 }) (λ _. refl)

abbrev pub coded_steps : Coded (List Step)
coded_steps = coded_list step_row.the_row.coded

abbrev pub coded_known : Coded Known
coded_known =
    code_by (Book × List Step) (coded× coded_book coded_steps)
    (λ k. (k.book, k.steps)) (λ p. record { book = p.0; steps = p.1 }) (λ _. refl)

abbrev pub coded_receipt : Coded ReceiptFacts
coded_receipt =
    code_by (ℕ × (ℕ × (Bool × Known))) (coded× coded_ℕ (coded× coded_ℕ (coded× coded_bool coded_known)))
    (λ r. (r.number, (r.rev, (r.shown, r.published))))
    (λ p. record { number = p.0; rev = p.1.0; shown = p.1.1.0; published = p.1.1.1 }) (λ _. refl)

abbrev pub coded_publishing : Coded Publishing
coded_publishing =
    code_by (Book × (List Step × (List Step × (ℕ × ℕ))))
    (coded× coded_book (coded× coded_steps (coded× coded_steps (coded× coded_ℕ coded_ℕ))))
    (λ p. (p.book, (p.posted, (p.shown, (p.seats, p.room)))))
    (λ q. record { book = q.0; posted = q.1.0; shown = q.1.1.0; seats = q.1.1.1.0; room = q.1.1.1.1 }) (λ _. refl)

abbrev pub coded_copied : Coded SnapCopy
coded_copied =
    code_by (Known × (ℕ × Snap)) (coded× coded_known (coded× coded_ℕ coded_snap))
    (λ c. (c.of, (c.rev, c.snap))) (λ p. record { of = p.0; rev = p.1.0; snap = p.1.1 }) (λ _. refl)
