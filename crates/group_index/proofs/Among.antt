-- Groups that have numbers in two tables.
use Rattle.std.proofs.Common.{ℕ, ◌≡◌, ◌<◌, ◌+◌, true, false, List, [], length, take, get_or, sym, ◌∙◌, subst, ⊎_elim}
use Rattle.std.specs.Prelude.{◌↔◌, Some, None, IsTrue, Bool}
use Rattle.std.specs.List.{slice_get}
use Rattle.std.specs.Cmp.{nat_eq_equiv}
use Rattle.std.proofs.lemmas.Bool.{false≢true}
use Rattle.std.proofs.lemmas.List.{get_or_default}
use Rattle.std.proofs.lemmas.Map.Views.{list_any-from_Contains}
use Rattle.std.proofs.lemmas.Option.{none-some, same_Some}
use Rattle.names.specs.declared.node.Node.{Node}
use Rattle.idsets.specs.Naming.{AreDistinct}
use Rattle.idsets.specs.Sets.{has}
use Rattle.region.proofs.Listing.{has_next}
use Rattle.leopard.specs.Finding.{IsNamedBy}

-- some group is among both
abbrev pub Meet : List Node → List ℕ → List Node → List ℕ → Type 0
Meet names ids others there = (n : Node) × IsNamedBy names ids n × IsNamedBy others there n

pub meet_turned : (names : List Node) (ids : List ℕ) (others : List Node) (there : List ℕ) → Meet others there names ids ↔ Meet names ids others there
meet_turned names ids others there = (λ (n, a, b). (n, b, a), λ (n, a, b). (n, b, a))

-- the group with a number is among them
pub named_here : (names : List Node) (ids : List ℕ) (n : Node) (id : ℕ) (answer : Bool) → AreDistinct names → slice_get names id ≡ Some n → answer ≡ has ids id → IsTrue answer ↔ IsNamedBy names ids n
named_here names ids n id answer distinct at is = (
  λ h. (id, at, sym is ∙ h),
  λ (i, there, h). is ∙ subst (λ j. has ids j ≡ true) (distinct i id n there at) h,
)

pub named_nowhere : (names : List Node) (ids : List ℕ) (n : Node) → ((id : ℕ) → slice_get names id ≡ Some n → ⊥) → IsTrue false ↔ IsNamedBy names ids n
named_nowhere names ids n missing = (λ h. absurd (false≢true h), λ (i, there, h). absurd (missing i there))

-- the group with this number in one table is among those of the other
pub known_here : (names others : List Node) (there : List ℕ) (id : ℕ) (n : Node) (answer : Bool) → slice_get names id ≡ Some n → IsTrue answer ↔ IsNamedBy others there n
    → IsTrue answer ↔ ((m : Node) × (slice_get names id ≡ Some m) × IsNamedBy others there m)
known_here names others there id n answer at is = (
  λ h. (n, at, is.0 h),
  λ (m, at_m, named). is.1 (subst (λ x. IsNamedBy others there x) (same_Some m n (sym at_m ∙ at)) named),
)

pub known_nowhere : (names others : List Node) (there : List ℕ) (id : ℕ) → None ≡ slice_get names id → IsTrue false ↔ ((m : Node) × (slice_get names id ≡ Some m) × IsNamedBy others there m)
known_nowhere names others there id off = (λ h. absurd (false≢true h), λ (m, at, named). absurd (none-some m (off ∙ at)))

-- ---- those that were gone over

module _ (names : List Node) (ids : List ℕ) (others : List Node) (there : List ℕ) where
  pub none_met : Meet names [] others there → ⊥
  none_met (n, (i, at, h), named) = false≢true h

  -- one more does not meet them
  pub none_more : (k d : ℕ) → k < length ids → (Meet names (take k ids) others there → ⊥) → (((n : Node) × (slice_get names (get_or ids k d) ≡ Some n) × IsNamedBy others there n) → ⊥)
      → Meet names (take (k + 1) ids) others there → ⊥
  none_more k d lt none not_this (n, (i, at, h), named) = ⊎_elim
      (λ q. none (n, (i, at, q), named))
      (λ e. not_this (n, subst (λ j. slice_get names j ≡ Some n) e at, named))
      (has_next ids k i d lt h)

  -- one is found
  pub one_met : (k d : ℕ) → k < length ids → ((n : Node) × (slice_get names (get_or ids k d) ≡ Some n) × IsNamedBy others there n) → Meet names ids others there
  one_met k d lt (n, at, named) = (n, (get_or ids k d, at, list_any-from_Contains nat_eq_equiv (get_or ids k d) ids (k, lt, get_or_default ids k (get_or ids k d) d lt)), named)
