-- The nodes that are open.
use Rattle.std.proofs.Common.{◌≡◌, ℕ, ◌+◌, ◌<◌, List, Bool, true, false, length, get_or, drop, refl, sym, ap, subst, ◌∙◌, true≢false}
use Rattle.std.specs.Prelude.{◌&&◌, ◌||◌, nat_eq}
use Rattle.std.specs.Ordering.{eq_by_cmp}
use Rattle.std.specs.Cmp.{eq_by_cmp_equiv}
use Rattle.std.specs.Cmp.Lexicographic.{same_text, pointwise, bytes_decides}
use Rattle.std.proofs.lemmas.Bool.{and_parts}
use Rattle.std.proofs.lemmas.Map.Views.{tells_apart}
use Rattle.names.specs.Order.{node_cmp}
use Rattle.names.specs.declared.node.Node.{Node}
use Rattle.meaning.proofs.TupleSets.{exact_nodes, nodes_total}
use Rattle.config_text.proofs.ByItem.{drop_here}
use Rattle.expand.specs.Tree.{is_among}

-- the test of `==`
abbrev pub is_same : Node → Node → Bool
is_same m n = (pointwise nat_eq m.object.namespace n.object.namespace && pointwise nat_eq m.object.id n.object.id) && pointwise nat_eq m.relation n.relation

same_node : (m n : Node) → is_same m n ≡ true → m ≡ n
same_node m n e =
    let namespace = pointwise nat_eq m.object.namespace n.object.namespace in
    let id = pointwise nat_eq m.object.id n.object.id in
    let outer = and_parts (namespace && id) (pointwise nat_eq m.relation n.relation) e in
    let inner = and_parts namespace id outer.0 in
    ap (λ x. record { object = record { namespace = x; id = m.object.id }; relation = m.relation }) (same_text _ _ (sym inner.0))
    ∙ ap (λ x. record { object = record { namespace = n.object.namespace; id = x }; relation = m.relation }) (same_text _ _ (sym inner.1))
    ∙ ap (λ x. record { object = n.object; relation = x }) (same_text _ _ (sym outer.1))

is_itself : (n : Node) → is_same n n ≡ true
is_itself n =
    let namespace = (bytes_decides n.object.namespace n.object.namespace).1 refl in
    let id = (bytes_decides n.object.id n.object.id).1 refl in
    let relation = (bytes_decides n.relation n.relation).1 refl in
    ap (λ b. (b && pointwise nat_eq n.object.id n.object.id) && pointwise nat_eq n.relation n.relation) namespace ∙ ap (λ b. b && pointwise nat_eq n.relation n.relation) id ∙ relation

-- the two tests are one
ties : (x n : Node) (b : Bool) → eq_by_cmp node_cmp n x ≡ b → is_same x n ≡ b
ties x n true e = subst (λ m. is_same m n ≡ true) (tells_apart exact_nodes n x e) (is_itself n)
ties x n false e =
    elim (is_same x n) as (λ b. is_same x n ≡ b → b ≡ false) [
      | true ↦ λ same. absurd (true≢false (sym (subst (λ m. eq_by_cmp node_cmp n m ≡ true) (sym (same_node x n same)) ((eq_by_cmp_equiv nodes_total).refl n)) ∙ e))
      | false ↦ λ same. refl
    ] refl

pub among_at : (path : List Node) (i : ℕ) (x n : Node) (b : Bool) → i < length path → x ≡ get_or path i x → b ≡ is_same x n → is_among (drop i path) n ≡ (b || is_among (drop (i + 1) path) n)
among_at path i x n b lt is same =
    ap (λ (ns : List Node). is_among ns n) (drop_here path i x lt is)
    ∙ ap (λ c. c || is_among (drop (i + 1) path) n) (sym (ties x n (eq_by_cmp node_cmp n x) refl) ∙ sym same)
