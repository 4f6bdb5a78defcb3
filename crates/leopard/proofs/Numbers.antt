-- The ids of groups.
use Rattle.std.proofs.Common.{◌≡◌, ℕ, List, [], ◌∷◌, ◌++◌, Bool, true, false, refl, ap, sym, subst, ◌∙◌, inl, inr, ⊎_elim}
use Rattle.std.specs.Prelude.{◌↔◌, ◌⊎◌, ◌||◌, Contains, Some, nat_eq}
use Rattle.std.specs.List.{slice_get, AllByRecursion}
use Rattle.std.specs.List.Sorted.{IsStrictlySortedBy}
use Rattle.std.specs.declared.cmp.Ordering.TheVariants.{Less}
use Rattle.std.proofs.lemmas.Bool.{false≢true, eqb-true, eq-eqb, or_cases}
use Rattle.names.specs.Order.{node_cmp}
use Rattle.names.specs.declared.node.Node.{Node}
use Rattle.meaning.proofs.TupleSets.{nodes_total}
use Rattle.idsets.specs.Naming.{AreDistinct}
use Rattle.idsets.specs.Sets.{has}
use Rattle.idsets.proofs.Having.{has-append}
use Rattle.leopard.proofs.Ordered.{not_below_itself, each_below, ordered_distinct}

pub not_less_itself : (n : Node) → node_cmp n n ≡ Less → ⊥
not_less_itself = not_below_itself node_cmp nodes_total

pub each_less : (n : Node) (xs : List Node) → AllByRecursion (λ y. node_cmp n y ≡ Less) xs → (x : Node) → Contains xs x → node_cmp n x ≡ Less
each_less = each_below node_cmp nodes_total

pub sorted_distinct : (names : List Node) → IsStrictlySortedBy node_cmp names → AreDistinct names
sorted_distinct = ordered_distinct node_cmp nodes_total

-- ---- ids

module _ (names : List Node) (distinct : AreDistinct names) where
  -- a node's id is the one that was found
  pub id_is : (n : Node) (found id : ℕ) → slice_get names found ≡ Some n → (slice_get names id ≡ Some n) ↔ (id ≡ found)
  id_is n found id at = (λ there. distinct id found n there at, λ e. subst (λ k. slice_get names k ≡ Some n) (sym e) at)

pub has_one : (x id : ℕ) → (has (x ∷ []) id ≡ true) ↔ (id ≡ x)
has_one x id = (
  λ h. ⊎_elim (λ e. eqb-true id x e) (λ e. absurd (false≢true e)) (or_cases (nat_eq id x) false h),
  λ e. ap (λ b. b || false) (eq-eqb id x e),
)

-- what one of two lists has
pub has_both : (xs ys : List ℕ) (id : ℕ) → (has (xs ++ ys) id ≡ true) ↔ ((has xs id ≡ true) ⊎ (has ys id ≡ true))
has_both xs ys id = (
  λ h. or_cases (has xs id) (has ys id) (sym (has-append xs ys id) ∙ h),
  λ h. has-append xs ys id ∙ ⊎_elim (λ e. ap (λ b. b || has ys id) e) (λ e. ap (λ b. has xs id || b) e ∙ either (has xs id)) h,
)
  where
    either : (b : Bool) → (b || true) ≡ true
    either true = refl
    either false = refl

pub has_push : (xs : List ℕ) (x id : ℕ) → (has (xs ++ x ∷ []) id ≡ true) ↔ ((has xs id ≡ true) ⊎ (id ≡ x))
has_push xs x id = (
  λ h. ⊎_elim inl (λ e. inr ((has_one x id).0 e)) ((has_both xs (x ∷ []) id).0 h),
  λ h. (has_both xs (x ∷ []) id).1 (⊎_elim inl (λ e. inr ((has_one x id).1 e)) h),
)
