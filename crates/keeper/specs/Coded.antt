-- What contracts see of a front as numbers, by which its states are told apart.
use Rattle.std.specs.Prelude.{ℕ, List, refl}
use Rattle.std.specs.Coded.{Coded, code_by, coded×, coded_ℕ, coded_list}
use Rattle.published.specs.Known.{Known}
use Rattle.published.specs.inside.Codes.{coded_known}
use Rattle.one_history.specs.declared.entry.Entry.{Entry}
use Rattle.keeper.specs.declared.deeds.Deed.{Deed}
use Rattle.keeper.specs.contracts.deeds.Deed as deed_row
use Rattle.keeper.specs.Fronts.{FrontState}

abbrev pub coded_entries : Coded (List (Entry Deed))
coded_entries =
    coded_list (code_by (ℕ × Deed) (coded× coded_ℕ deed_row.the_row.coded) (λ e. (e.by, e.what)) (λ p. record { by = p.0; what = p.1 }) (λ _. refl))

abbrev pub coded_front : Coded FrontState
coded_front =
    code_by (Known × (ℕ × (List (Entry Deed) × List (Entry Deed)))) (coded× coded_known (coded× coded_ℕ (coded× coded_entries coded_entries)))
    (λ s. (s.known, (s.hand.by, (s.hand.seen, s.hand.mine))))
    (λ p. record { known = p.0; hand = record { by = p.1.0; seen = p.1.1.0; mine = p.1.1.1 } }) (λ _. refl)
