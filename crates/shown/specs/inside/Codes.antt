-- A standing as numbers, by which its values are told apart.
use Rattle.std.specs.Prelude.{ℕ, List, refl}
use Rattle.std.specs.Coded.{Coded, code_by, coded×, coded_ℕ, coded_list}
use Rattle.names.specs.declared.node.Node.{Node}
use Rattle.rows.specs.Retained.{Retained}
use Rattle.rows.specs.inside.Codes.{coded_retained}
use Rattle.shown.specs.Standing.{Standing}

abbrev coded_text : Coded (List ℕ)
coded_text = coded_list coded_ℕ

abbrev coded_node : Coded Node
coded_node =
    code_by ((List ℕ × List ℕ) × List ℕ) (coded× (coded× coded_text coded_text) coded_text)
    (λ n. ((n.object.namespace, n.object.id), n.relation))
    (λ p. record { object = record { namespace = p.0.0; id = p.0.1 }; relation = p.1 }) (λ _. refl)

abbrev pub coded_standing : Coded Standing
coded_standing =
    code_by (Retained × (ℕ × (ℕ × (ℕ × List Node))))
    (coded× coded_retained (coded× coded_ℕ (coded× coded_ℕ (coded× coded_ℕ (coded_list coded_node)))))
    (λ s. (s.kept, (s.base, (s.index, (s.hot, s.marks)))))
    (λ p. record { kept = p.0; base = p.1.0; index = p.1.1.0; hot = p.1.1.1.0; marks = p.1.1.1.1 }) (λ _. refl)
