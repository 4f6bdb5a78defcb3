-- Lists of found nodes.
use Rattle.std.proofs.Common.{ℕ, zero, suc, ◌≡◌, ◌≤◌, ◌<◌, ◌+◌, Bool, true, false, ◌||◌, take, length, drop, nat_eq, inl, inr, ◌⊎◌, List, [], ◌∷◌, ◌++◌, get_or, refl, sym, ◌∙◌, ap, subst, arith, ⊎_elim}
use Rattle.std.specs.List.{IsDistinct}
use Rattle.std.specs.Cmp.{nat_eq_equiv}
use Rattle.std.proofs.lemmas.Map.Keys.{IsDistinct-push}
use Rattle.std.proofs.lemmas.Map.Steps.{length-le_from_distinct_below}
use Rattle.std.proofs.lemmas.List.{take_more, take-append-le, length-append, take_all, take-append-drop}
use Rattle.std.proofs.lemmas.List.Folds.{list_any_at}
use Rattle.std.proofs.lemmas.Bool.{or_cases, or_left, or_right, false≢true, eqb-true, eq-eqb}
use Rattle.least_sets.specs.World.{has}
use Rattle.least_sets.specs.Walks.{Adds, here, on, IsReached}
use Rattle.least_sets.proofs.Gives.{has-append, has_left, has_cases}

pub distinct_none : (xs : List ℕ) → xs ≡ [] → IsDistinct nat_eq xs
unfolding IsDistinct
distinct_none [] e = tt
distinct_none (x ∷ xs) e = absurd (cc)

or_false : (b : Bool) → b ≡ (b || false)
or_false true = refl
or_false false = refl

pub adds_push : (xs : List ℕ) (id : ℕ) → IsDistinct nat_eq xs → has xs id ≡ false → Adds xs (xs ++ id ∷ []) (λ u. nat_eq u id)
adds_push xs id d off = record {
  members = λ u. has-append xs (id ∷ []) u ∙ ap (λ b. has xs u || b) (sym (or_false (nat_eq u id)));
  distinct = IsDistinct-push nat_eq_equiv xs id d off;
  front = λ i le. take-append-le i xs (id ∷ []) le;
  longer = omega (arith, length-append xs (id ∷ []));
}

pub has_below : (xs : List ℕ) (bound : ℕ) → ((i d : ℕ) → i < length xs → get_or xs i d < bound) → (q : ℕ) → has xs q ≡ true → q < bound
has_below [] bound f q h = absurd (false≢true h)
has_below (x ∷ xs) bound f q h = ⊎_elim
    (λ e. subst (λ j. j < bound) (sym (eqb-true q x e)) (f zero 0 (omega arith)))
    (λ r. has_below xs bound (λ i d lt. f (suc i) d (omega arith)) q r)
    (or_cases (nat_eq q x) (has xs q) h)

-- a list of small numbers, none of them twice, is not long
pub short_from_small : (xs : List ℕ) (bound : ℕ) → IsDistinct nat_eq xs → ((u : ℕ) → has xs u ≡ true → u < bound) → length xs ≤ bound
short_from_small xs bound d f = length-le_from_distinct_below xs bound d f

pub has_at : (xs : List ℕ) (i x : ℕ) → i < length xs → x ≡ get_or xs i x → has xs x ≡ true
has_at xs i x lt e = list_any_at (nat_eq x) xs i x lt (eq-eqb x (get_or xs i x) e)

pub has_take : (xs : List ℕ) (i n : ℕ) → has (take i xs) n ≡ true → has xs n ≡ true
has_take xs i n h = sym (ap (λ ys. has ys n) (take-append-drop i xs)) ∙ has_left (take i xs) (drop i xs) n h

-- a search whose first nodes are done
pub record SearchAt (arc : ℕ → ℕ → Bool) (starts : List ℕ) (at : ℕ) (found : List ℕ) : Type 0 where
  pub distinct : IsDistinct nat_eq found
  pub starts_in : (n : ℕ) → has starts n ≡ true → has found n ≡ true
  pub closed : (n m : ℕ) → has (take at found) n ≡ true → arc n m ≡ true → has found m ≡ true
  pub sound : (n : ℕ) → has found n ≡ true → IsReached arc starts n
  pub within : at ≤ length found

pub search_none : (arc : ℕ → ℕ → Bool) (starts found nothing : List ℕ) → nothing ≡ [] → Adds nothing found (has starts) → SearchAt arc starts 0 found
search_none arc starts found nothing e a = record {
  distinct = a.distinct;
  starts_in = λ n h. a.members n ∙ or_right (has nothing n) (has starts n) h;
  closed = λ n m h g. absurd (false≢true h);
  sound = λ n h. ⊎_elim
      (λ f. absurd (false≢true (ap (λ xs. has xs n) (sym e) ∙ f)))
      (λ s. record { start = n; among = s; walk = here })
      (or_cases (has nothing n) (has starts n) (sym (a.members n) ∙ h));
  within = omega arith;
}

adds_old : (xs ys : List ℕ) (more : ℕ → Bool) → Adds xs ys more → (n : ℕ) → has xs n ≡ true → has ys n ≡ true
adds_old xs ys more a n h = a.members n ∙ or_left (has xs n) (more n) h

-- the nodes that are done, with one more
pub done_cases : (xs ys : List ℕ) (more : ℕ → Bool) (at node : ℕ) → Adds xs ys more → at < length xs → node ≡ get_or xs at node
    → (n : ℕ) → has (take (at + 1) ys) n ≡ true → (has (take at xs) n ≡ true) ⊎ (node ≡ n)
done_cases xs ys more at node a lt e n h =
    let front : take (at + 1) ys ≡ take at xs ++ node ∷ [] = a.front (at + 1) (omega arith) ∙ take_more xs at node lt ∙ ap (λ x. take at xs ++ x ∷ []) (sym e) in
    ⊎_elim (λ f. inl f)
    (λ f. ⊎_elim (λ q. inr (sym (eqb-true n node q))) (λ q. absurd (false≢true q)) (or_cases (nat_eq n node) false f))
    (has_cases (take at xs) (node ∷ []) n (ap (λ zs. has zs n) (sym front) ∙ h))

pub search_more : (arc : ℕ → ℕ → Bool) (starts : List ℕ) (at node : ℕ) (xs ys : List ℕ)
    → SearchAt arc starts at xs → at < length xs → node ≡ get_or xs at node → Adds xs ys (arc node) → SearchAt arc starts (at + 1) ys
search_more arc starts at node xs ys so_far lt e a = record {
  distinct = a.distinct;
  starts_in = λ n h. adds_old xs ys (arc node) a n (so_far.starts_in n h);
  closed = λ n m h g. ⊎_elim
      (λ f. adds_old xs ys (arc node) a m (so_far.closed n m f g))
      (λ same. a.members m ∙ or_right (has xs m) (arc node m) (subst (λ i. arc i m ≡ true) (sym same) g))
      (done_cases xs ys (arc node) at node a lt e n h);
  sound = λ n h. ⊎_elim
      (λ f. so_far.sound n f)
      (λ g. let r = so_far.sound node (has_at xs at node lt e) in record { start = r.start; among = r.among; walk = on r.walk g })
      (or_cases (has xs n) (arc node n) (sym (a.members n) ∙ h));
  within = let l = a.longer in omega arith;
}

pub search_end : (arc : ℕ → ℕ → Bool) (starts : List ℕ) (at : ℕ) (found : List ℕ) → SearchAt arc starts at found → length found ≤ at
    → (n m : ℕ) → has found n ≡ true → arc n m ≡ true → has found m ≡ true
search_end arc starts at found so_far le n m h g = so_far.closed n m (ap (λ xs. has xs n) (take_all at found le) ∙ h) g

pub has_small : (xs : List ℕ) (bound : ℕ) → ((i : ℕ) → get_or xs i 0 < bound) → (q : ℕ) → has xs q ≡ true → q < bound
has_small [] bound f q h = absurd (false≢true h)
has_small (x ∷ xs) bound f q h = ⊎_elim
    (λ e. subst (λ j. j < bound) (sym (eqb-true q x e)) (f zero))
    (λ r. has_small xs bound (λ i. f (suc i)) q r)
    (or_cases (nat_eq q x) (has xs q) h)
