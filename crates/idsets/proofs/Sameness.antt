-- A set has one list of its ids in order.
use Rattle.std.proofs.Common.{◌≡◌, ℕ, suc, ◌<◌, List, [], ◌∷◌, Bool, true, false, refl, ap, sym, ◌∙◌, subst, ◌⊎◌, inl, inr, arith}
use Rattle.std.specs.Prelude.{◌||◌, nat_eq}
use Rattle.std.specs.List.Sorted.{IsStrictlyIncreasing}
use Rattle.std.proofs.lemmas.Bool.{cases_order, false≢true, eqb-true}
use Rattle.idsets.specs.Sets.{has}
use Rattle.idsets.proofs.Having.{has_at, lacks}
use Rattle.idsets.proofs.Rising.{below_later, le_later, rising_drop}

-- what is below the first is none of them
below_first : (x : ℕ) (xs : List ℕ) (id : ℕ) → IsStrictlyIncreasing (x ∷ xs) → id < x → has (x ∷ xs) id ≡ false
below_first x xs id up l = lacks (x ∷ xs) id (λ k within e. omega (arith, le_later (x ∷ xs) 0 k up (omega arith) within))

first_once : (x : ℕ) (xs : List ℕ) → IsStrictlyIncreasing (x ∷ xs) → has xs x ≡ false
first_once x xs up = lacks xs x (λ k within e. omega (arith, below_later (x ∷ xs) 0 (suc k) up (omega arith) (omega arith)))

first_is : (x : ℕ) (xs : List ℕ) → has (x ∷ xs) x ≡ true
first_is x xs = has_at (x ∷ xs) 0 x (omega arith) refl

pub one_list : (a b : List ℕ) → IsStrictlyIncreasing a → IsStrictlyIncreasing b → ((id : ℕ) → has a id ≡ has b id) → a ≡ b
one_list [] [] up over same = refl
one_list [] (y ∷ b) up over same = absurd (false≢true (same y ∙ first_is y b))
one_list (x ∷ a) [] up over same = absurd (false≢true (sym (same x) ∙ first_is x a))
one_list (x ∷ a) (y ∷ b) up over same = by (λ s. one_list a b (rising_drop (x ∷ a) 1 up) (rising_drop (y ∷ b) 1 over) s) (cases_order x y)
  where
    rest : x ≡ y → (id : ℕ) → has a id ≡ has b id
    rest e id = which (nat_eq id x) refl
      where
        which : (t : Bool) → nat_eq id x ≡ t → has a id ≡ has b id
        which true h =
            let is : id ≡ x = eqb-true id x h in
            subst (λ n. has a n ≡ has b n) (sym is) (first_once x a up ∙ sym (ap (has b) e ∙ first_once y b over))
        which false h =
            sym (ap (λ t. t || has a id) h) ∙ same id ∙ ap (λ n. nat_eq id n || has b id) (sym e) ∙ ap (λ t. t || has b id) h

    by : (((id : ℕ) → has a id ≡ has b id) → a ≡ b) → (x ≡ y) ⊎ ((x < y) ⊎ (y < x)) → x ∷ a ≡ y ∷ b
    by tails (inl e) = ap (λ n. n ∷ a) e ∙ ap (λ l. y ∷ l) (tails (rest e))
    by tails (inr (inl l)) = absurd (false≢true (sym (below_first y b x over l) ∙ sym (same x) ∙ first_is x a))
    by tails (inr (inr l)) = absurd (false≢true (sym (below_first x a y up l) ∙ same y ∙ first_is y b))
