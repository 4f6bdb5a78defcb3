-- The group index as numbers, by which two are told apart. No promise rests on it.
use Rattle.std.specs.Prelude.{ℕ, List, refl}
use Rattle.std.specs.Coded.{Coded, code_by, coded×, coded_ℕ, coded_list}
use Rattle.names.specs.declared.object.Object.{Object}
use Rattle.names.specs.declared.node.Node.{Node}
use Rattle.meaning.specs.Config.{Configured}
use Rattle.meaning.specs.inside.Codes.{coded_names, coded_config}
use Rattle.leopard.specs.Index.{Index}

abbrev pub coded_object : Coded Object
coded_object = code_by (List ℕ × List ℕ) coded_names (λ o. (o.namespace, o.id)) (λ p. record { namespace = p.0; id = p.1 }) (λ _. refl)

abbrev pub coded_node : Coded Node
coded_node = code_by (Object × List ℕ) (coded× coded_object (coded_list coded_ℕ)) (λ n. (n.object, n.relation)) (λ p. record { object = p.0; relation = p.1 }) (λ _. refl)

abbrev pub coded_sets : Coded (List (List ℕ))
coded_sets = coded_list (coded_list coded_ℕ)

abbrev pub coded_index : Coded Index
coded_index = code_by (Configured × (ℕ × (List Node × (List (List ℕ) × (List Object × List (List ℕ))))))
    (coded× coded_config (coded× coded_ℕ (coded× (coded_list coded_node) (coded× coded_sets (coded× (coded_list coded_object) coded_sets)))))
    (λ x. (x.config, (x.rev, (x.groups, (x.closures, (x.users, x.direct))))))
    (λ p. record { config = p.0; rev = p.1.0; groups = p.1.1.0; closures = p.1.1.1.0; users = p.1.1.1.1.0; direct = p.1.1.1.1.1 }) (λ _. refl)
