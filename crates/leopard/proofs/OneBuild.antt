-- A snapshot has one index.
use Rattle.std.proofs.Common.{◌≡◌, ℕ, zero, suc, ◌<◌, List, [], ◌∷◌, length, get_or, refl, ap₂, sym, subst, ◌∙◌, arith}
use Rattle.std.specs.Prelude.{Some}
use Rattle.std.specs.List.{slice_get}
use Rattle.names.specs.Order.{object_cmp, node_cmp}
use Rattle.names.specs.declared.object.Object.{Object}
use Rattle.names.specs.declared.node.Node.{Node}
use Rattle.meaning.specs.Snap.{Snap}
use Rattle.meaning.proofs.TupleSets.{objects_total, nodes_total}
use Rattle.idsets.specs.Sets.{has}
use Rattle.idsets.proofs.Having.{same_tests}
use Rattle.idsets.proofs.Sameness.{one_list}
use Rattle.leopard.specs.Groups.{GroupToGroup, MemberToGroup}
use Rattle.leopard.specs.Index.{Index}
use Rattle.leopard.specs.Build.{IsSetOf, AreSetsOf, IsBuiltOf}
use Rattle.leopard.specs.Build.{ThereIsOneBuild}
use Rattle.leopard.proofs.Ordered.{ordered_one}

one_set : (groups : List Node) (P : Node → Type 0) (a b : List ℕ) → IsSetOf groups P a → IsSetOf groups P b → a ≡ b
one_set groups P a b one other = one_list a b one.ascending other.ascending
    (λ id. same_tests (has a id) (has b id) (λ h. (other.ids id).1 ((one.ids id).0 h)) (λ h. (one.ids id).1 ((other.ids id).0 h)))

same_at : (a b : List (List ℕ)) → length a ≡ length b → ((at : ℕ) → at < length a → get_or a at [] ≡ get_or b at []) → a ≡ b
same_at [] [] long each = refl
same_at [] (y ∷ b) long each = absurd (omega (arith, long))
same_at (x ∷ a) [] long each = absurd (omega (arith, long))
same_at (x ∷ a) (y ∷ b) long each = ap₂ (λ z l. z ∷ l) (each 0 (omega arith)) (same_at a b (omega (arith, long)) (λ at lt. each (suc at) (omega (arith, lt))))

pub get_within : {A : Type 0} (xs : List A) (i : ℕ) → i < length xs → (x : A) × (slice_get xs i ≡ Some x)
get_within [] i lt = absurd (omega (arith, lt))
get_within (x ∷ xs) zero lt = (x, refl)
get_within (x ∷ xs) (suc i) lt = get_within xs i (omega (arith, lt))

one_list_of_sets : {K : Type 0} (groups : List Node) (P : K → Node → Type 0) (keys : List K) (a b : List (List ℕ)) → AreSetsOf groups P keys a → AreSetsOf groups P keys b → a ≡ b
one_list_of_sets groups P keys a b one other = same_at a b (one.even ∙ sym other.even) (λ at lt.
    let (k, there) = get_within keys at (omega (arith, lt, one.even)) in
    one_set groups (P k) (get_or a at []) (get_or b at []) (one.each at k there) (other.each at k there))

module _ (S : Snap) (rev : ℕ) (x y : Index) (one : IsBuiltOf S rev x) (other : IsBuiltOf S rev y) where
  same_config : x.config ≡ y.config
  same_config = one.config ∙ sym other.config

  same_rev : x.rev ≡ y.rev
  same_rev = one.rev ∙ sym other.rev

  same_groups : x.groups ≡ y.groups
  same_groups = ordered_one node_cmp nodes_total x.groups y.groups one.groups_ascend other.groups_ascend (λ n c. (other.groups n).1 ((one.groups n).0 c)) (λ n c. (one.groups n).1 ((other.groups n).0 c))

  same_users : x.users ≡ y.users
  same_users = ordered_one object_cmp objects_total x.users y.users one.users_ascend other.users_ascend (λ u c. (other.users u).1 ((one.users u).0 c)) (λ u c. (one.users u).1 ((other.users u).0 c))

  same_closures : x.closures ≡ y.closures
  same_closures = one_list_of_sets x.groups (GroupToGroup S) x.groups x.closures y.closures one.closures
      (subst (λ (gs : List Node). AreSetsOf gs (GroupToGroup S) gs y.closures) (sym same_groups) other.closures)

  same_direct : x.direct ≡ y.direct
  same_direct = one_list_of_sets x.groups (MemberToGroup S) x.users x.direct y.direct one.direct
      (subst (λ (us : List Object). AreSetsOf x.groups (MemberToGroup S) us y.direct) (sym same_users)
      (subst (λ (gs : List Node). AreSetsOf gs (MemberToGroup S) y.users y.direct) (sym same_groups) other.direct))

  same_index : x ≡ y
  same_index = λ i. record { config = same_config i; rev = same_rev i; groups = same_groups i; closures = same_closures i; users = same_users i; direct = same_direct i }

pub one_build : ThereIsOneBuild
one_build S rev x y one other = same_index S rev x y one other
