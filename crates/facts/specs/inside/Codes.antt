-- A view that is asked as a number, by which such values are told apart.
use Rattle.std.specs.Prelude.{ℕ, List, refl}
use Rattle.std.specs.Coded.{Coded, code_by, coded×, coded_ℕ, coded_list}
use Rattle.names.specs.declared.object.Object.{Object}
use Rattle.names.specs.declared.node.Node.{Node}
use Rattle.meaning.specs.Snap.{Snap}
use Rattle.meaning.specs.inside.Codes.{coded_snap}
use Rattle.facts.specs.Asking.{Asking}

abbrev coded_text : Coded (List ℕ)
coded_text = coded_list coded_ℕ

abbrev coded_object : Coded Object
coded_object = code_by (List ℕ × List ℕ) (coded× coded_text coded_text) (λ o. (o.namespace, o.id)) (λ p. record { namespace = p.0; id = p.1 }) (λ _. refl)

abbrev coded_node : Coded Node
coded_node = code_by (Object × List ℕ) (coded× coded_object coded_text) (λ n. (n.object, n.relation)) (λ p. record { object = p.0; relation = p.1 }) (λ _. refl)

abbrev pub coded_asking : Coded Asking
coded_asking = code_by (Snap × (List Node × (List Object × List ℕ))) (coded× coded_snap (coded× (coded_list coded_node) (coded× (coded_list coded_object) coded_text)))
    (λ a. (a.snap, (a.nodes, (a.users, a.asked)))) (λ p. record { snap = p.0; nodes = p.1.0; users = p.1.1.0; asked = p.1.1.1 }) (λ _. refl)
