-- A node is its parts.
use Rattle.std.proofs.Common.{◌≡◌, true, sym, ap, ◌∙◌}
use Rattle.std.specs.Prelude.{◌&&◌, nat_eq}
use Rattle.std.specs.Cmp.Lexicographic.{same_text, pointwise}
use Rattle.std.proofs.lemmas.Bool.{and_parts}
use Rattle.names.specs.declared.object.Object.{Object}
use Rattle.names.specs.declared.node.Node.{Node}

pub node_parts : (m n : Node) → m.object.namespace ≡ n.object.namespace → m.object.id ≡ n.object.id
    → m.relation ≡ n.relation → m ≡ n
node_parts m n namespace id relation =
    ap (λ x. record { object = record { namespace = x; id = m.object.id }; relation = m.relation }) namespace
    ∙ ap (λ x. record { object = record { namespace = n.object.namespace; id = x }; relation = m.relation }) id
    ∙ ap (λ x. record { object = n.object; relation = x }) relation

pub same_node : (m n : Node)
    → ((pointwise nat_eq m.object.namespace n.object.namespace && pointwise nat_eq m.object.id n.object.id)
    && pointwise nat_eq m.relation n.relation) ≡ true
    → m ≡ n
same_node m n e =
    let namespace = pointwise nat_eq m.object.namespace n.object.namespace in
    let id = pointwise nat_eq m.object.id n.object.id in
    let outer = and_parts (namespace && id) (pointwise nat_eq m.relation n.relation) e in
    let inner = and_parts namespace id outer.0 in
    node_parts m n (same_text _ _ (sym inner.0)) (same_text _ _ (sym inner.1)) (same_text _ _ (sym outer.1))

pub object_parts : (o p : Object) → o.namespace ≡ p.namespace → o.id ≡ p.id → o ≡ p
object_parts o p namespace id = ap (λ x. record { namespace = x; id = o.id }) namespace ∙ ap (λ x. record { namespace = p.namespace; id = x }) id

pub same_object : (o p : Object) → (pointwise nat_eq o.namespace p.namespace && pointwise nat_eq o.id p.id) ≡ true → o ≡ p
same_object o p e =
    let parts = and_parts (pointwise nat_eq o.namespace p.namespace) (pointwise nat_eq o.id p.id) e in
    object_parts o p (same_text _ _ (sym parts.0)) (same_text _ _ (sym parts.1))
