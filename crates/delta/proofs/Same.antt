-- Equality of nodes.
use Rattle.std.proofs.Common.{◌≡◌, List, [], ◌∷◌, Bool, true, refl, sym, ap, subst, ◌∙◌, ⊎_elim}
use Rattle.std.specs.Prelude.{◌&&◌, ◌↔◌, nat_eq, Contains}
use Rattle.std.specs.List.{list_any}
use Rattle.std.specs.Cmp.Lexicographic.{same_text, pointwise, bytes_decides}
use Rattle.std.proofs.lemmas.Bool.{and_parts, or_cases, or_left, or_right, false≢true}
use Rattle.names.specs.declared.node.Node.{Node}
use Rattle.meaning.proofs.Lists.{contains_here, contains_there, contains_cases, contains_none}

-- the test of `==`
abbrev pub is_same : Node → Node → Bool
is_same m n = (pointwise nat_eq m.object.namespace n.object.namespace && pointwise nat_eq m.object.id n.object.id) && pointwise nat_eq m.relation n.relation

same_node : (m n : Node) → is_same m n ≡ true → m ≡ n
same_node m n e =
    let namespace = pointwise nat_eq m.object.namespace n.object.namespace in
    let id = pointwise nat_eq m.object.id n.object.id in
    let outer = and_parts (namespace && id) (pointwise nat_eq m.relation n.relation) e in
    let inner = and_parts namespace id outer.0 in
    ap (λ x. record { object = record { namespace = x; id = m.object.id }; relation = m.relation }) (same_text _ _ (sym inner.0))
    ∙ ap (λ x. record { object = record { namespace = n.object.namespace; id = x }; relation = m.relation }) (same_text _ _ (sym inner.1))
    ∙ ap (λ x. record { object = n.object; relation = x }) (same_text _ _ (sym outer.1))

is_itself : (n : Node) → is_same n n ≡ true
is_itself n =
    let namespace = (bytes_decides n.object.namespace n.object.namespace).1 refl in
    let id = (bytes_decides n.object.id n.object.id).1 refl in
    let relation = (bytes_decides n.relation n.relation).1 refl in
    ap (λ b. (b && pointwise nat_eq n.object.id n.object.id) && pointwise nat_eq n.relation n.relation) namespace ∙ ap (λ b. b && pointwise nat_eq n.relation n.relation) id ∙ relation

pub any_same : (nodes : List Node) (n : Node) → (list_any (λ m. is_same m n) nodes ≡ true) ↔ Contains nodes n
any_same [] n = (λ h. absurd (false≢true h), λ c. absurd (contains_none n c))
any_same (m ∷ ms) n = (
  λ h. ⊎_elim
      (λ e. subst (λ x. Contains (m ∷ ms) x) (same_node m n e) (contains_here m ms))
      (λ e. contains_there m n ms ((any_same ms n).0 e))
      (or_cases (is_same m n) (list_any (λ x. is_same x n) ms) h),
  λ c. ⊎_elim
      (λ e. or_left (is_same m n) (list_any (λ x. is_same x n) ms) (subst (λ x. is_same m x ≡ true) e (is_itself m)))
      (λ d. or_right (is_same m n) (list_any (λ x. is_same x n) ms) ((any_same ms n).1 d))
      (contains_cases m n ms c),
)
