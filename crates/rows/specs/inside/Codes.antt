-- What is retained as numbers, by which its values are told apart.
use Rattle.std.specs.Prelude.{ℕ, List, refl}
use Rattle.std.specs.Coded.{Coded, code_by, coded×, coded_ℕ, coded_list}
use Rattle.names.specs.declared.commit.Commit.{Commit}
use Rattle.meaning.specs.Config.{Configured}
use Rattle.meaning.specs.Snap.{Snap}
use Rattle.meaning.specs.inside.Codes.{coded_commit, coded_snap}
use Rattle.rows.specs.Retained.{Retained}

abbrev pub coded_retained : Coded Retained
coded_retained = code_by (ℕ × (ℕ × (Snap × List (Commit Configured)))) (coded× coded_ℕ (coded× coded_ℕ (coded× coded_snap (coded_list coded_commit))))
    (λ r. (r.number, (r.floor, (r.base, r.commits)))) (λ p. record { number = p.0; floor = p.1.0; base = p.1.1.0; commits = p.1.1.1 }) (λ _. refl)
