-- Which ids a list has.
use Rattle.std.proofs.Common.{◌≡◌, ℕ, ◌+◌, ◌<◌, List, ◌++◌, length, take, drop, get_or, Bool, true, false, refl, ap, sym, ◌∙◌}
use Rattle.std.specs.Prelude.{◌||◌, nat_eq}
use Rattle.std.specs.Cmp.{nat_eq_equiv}
use Rattle.std.specs.List.{dedup}
use Rattle.std.proofs.lemmas.Bool.{eq-eqb, eqb-true, false_from_ne_true}
use Rattle.std.proofs.lemmas.List.Kept.{Contains-dedup_nat, Contains-from_dedup}
use Rattle.std.proofs.lemmas.Map.Views.{Contains-from_any, list_any-from_Contains}
use Rattle.std.proofs.lemmas.List.{get_or_default, take-append-drop}
use Rattle.std.proofs.lemmas.List.Folds.{list_any-append, list_any_more, list_any_at, Any-from_list_any}
use Rattle.idsets.specs.Sets.{has}

pub has_at : (xs : List ℕ) (k id : ℕ) → k < length xs → get_or xs k 0 ≡ id → has xs id ≡ true
has_at xs k id within is = list_any_at (nat_eq id) xs k 0 within (eq-eqb id (get_or xs k 0) (sym is))

pub place_in : (xs : List ℕ) (id : ℕ) → has xs id ≡ true → (k : ℕ) × (k < length xs) × (get_or xs k 0 ≡ id)
place_in xs id h =
    let at = Any-from_list_any (nat_eq id) xs h in
    (at.0, at.2, get_or_default xs at.0 0 at.1 at.2 ∙ at.3 ∙ sym (eqb-true id at.1 at.4))

pub lacks : (xs : List ℕ) (id : ℕ) → ((k : ℕ) → k < length xs → get_or xs k 0 ≡ id → ⊥) → has xs id ≡ false
lacks xs id none = false_from_ne_true (has xs id) (λ h. let at = place_in xs id h in none at.0 at.1 at.2)

pub has-append : (xs ys : List ℕ) (id : ℕ) → has (xs ++ ys) id ≡ (has xs id || has ys id)
has-append xs ys id = list_any-append (nat_eq id) xs ys

pub has_more : (xs : List ℕ) (i id : ℕ) → i < length xs → has (take (i + 1) xs) id ≡ (has (take i xs) id || nat_eq id (get_or xs i 0))
has_more xs i id within = list_any_more (nat_eq id) xs i 0 within

pub has_parts : (xs : List ℕ) (i id : ℕ) → has xs id ≡ (has (take i xs) id || has (drop i xs) id)
has_parts xs i id = ap (λ l. has l id) (sym (take-append-drop i xs)) ∙ has-append (take i xs) (drop i xs) id

-- two tests that pass together are one
pub same_tests : (p q : Bool) → (p ≡ true → q ≡ true) → (q ≡ true → p ≡ true) → p ≡ q
same_tests true q f g = sym (f refl)
same_tests false true f g = g refl
same_tests false false f g = refl

pub has-dedup : (xs : List ℕ) (id : ℕ) → has (dedup nat_eq xs) id ≡ has xs id
has-dedup xs id = same_tests (has (dedup nat_eq xs) id) (has xs id)
    (λ h. list_any-from_Contains nat_eq_equiv id xs (Contains-from_dedup nat_eq xs id (Contains-from_any eqb-true id (dedup nat_eq xs) h)))
    (λ h. list_any-from_Contains nat_eq_equiv id (dedup nat_eq xs) (Contains-dedup_nat xs id (Contains-from_any eqb-true id xs h)))
