-- How many marks there are.
use Rattle.std.proofs.Common.{ℕ, ◌≡◌, ◌<◌, ◌+◌, Bool, true, false, ◌||◌, ◌&&◌, not, nat_eq, List, [], ◌∷◌, ◌++◌, length, get_or, refl, sym, ◌∙◌, ap, arith, ⊎_elim, length-append}
use Rattle.std.specs.List.{IsDistinct}
use Rattle.std.specs.List.Sorted.{IsStrictlyIncreasing}
use Rattle.std.specs.Cmp.{nat_eq_equiv}
use Rattle.std.proofs.lemmas.Bool.{cases_Bool, false≢true, eqb-true, eq-eqb, false_from_ne_true}
use Rattle.std.proofs.lemmas.List.{get_or_default}
use Rattle.std.proofs.lemmas.Map.Keys.{IsDistinct-from_apart, IsDistinct-push}
use Rattle.std.proofs.lemmas.Map.Made.{length-from_same_keys}
use Rattle.idsets.proofs.Rising.{below_later}
use Rattle.least_sets.specs.World.{has}
use Rattle.facts.specs.inside.Tables.{has_push}

distinct_rising : (xs : List ℕ) → IsStrictlyIncreasing xs → IsDistinct nat_eq xs
distinct_rising xs up = IsDistinct-from_apart nat_eq xs (λ i j d l within. false_from_ne_true (nat_eq (get_or xs i d) (get_or xs j d)) (λ h.
    let same : get_or xs i d ≡ get_or xs j d = eqb-true (get_or xs i d) (get_or xs j d) h in
    let at_i : get_or xs i d ≡ get_or xs i 0 = get_or_default xs i d 0 (omega (arith, l, within)) in
    let at_j : get_or xs j d ≡ get_or xs j 0 = get_or_default xs j d 0 within in
    let below : get_or xs i 0 < get_or xs j 0 = below_later xs i j up l within in
    omega (arith, same, at_i, at_j, below)))

swapped : (a b : Bool) → (a || b) ≡ (b || a)
swapped true true = refl
swapped true false = refl
swapped false true = refl
swapped false false = refl

-- one mark more
pub count_more : (a b : List ℕ) (id : ℕ) → IsStrictlyIncreasing a → IsStrictlyIncreasing b → has a id ≡ false → ((o : ℕ) → has b o ≡ (nat_eq o id || has a o)) → length b ≡ length a + 1
count_more a b id up_a up_b off e =
    let same : length (a ++ id ∷ []) ≡ length b = length-from_same_keys nat_eq_equiv (a ++ id ∷ []) b (IsDistinct-push nat_eq_equiv a id (distinct_rising a up_a) off) (distinct_rising b up_b)
    (λ q. has_push a id q ∙ swapped (has a q) (nat_eq q id) ∙ sym (e q)) in
    omega (arith, same, length-append a (id ∷ []))

-- one mark less
pub count_less : (a b : List ℕ) (id : ℕ) → IsStrictlyIncreasing a → IsStrictlyIncreasing b → has a id ≡ true → ((o : ℕ) → has b o ≡ (has a o && not (nat_eq o id))) → length b + 1 ≡ length a
count_less a b id up_a up_b there e = sym (count_more b a id up_b up_a (e id ∙ ap (λ x. has a id && not x) (itself id) ∙ none (has a id)) (λ o. ⊎_elim
    (λ h. ap (λ n. has a n) (eqb-true o id h) ∙ there ∙ sym (ap (λ x. x || has b o) h))
    (λ h. kept (has a o) (nat_eq o id) h ∙ sym (e o) ∙ sym (ap (λ x. x || has b o) h))
    (cases_Bool (nat_eq o id))))
  where
    itself : (n : ℕ) → nat_eq n n ≡ true
    itself n = eq-eqb n n refl

    none : (x : Bool) → (x && false) ≡ false
    none true = refl
    none false = refl

    kept : (x y : Bool) → y ≡ false → x ≡ (x && not y)
    kept x true h = absurd (false≢true (sym h))
    kept true false h = refl
    kept false false h = refl
