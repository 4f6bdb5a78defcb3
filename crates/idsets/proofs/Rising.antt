-- Lists of ids in ascending order.
use Rattle.std.proofs.Common.{◌≡◌, ℕ, ◌+◌, ◌-◌, ◌<◌, ◌≤◌, List, [], ◌∷◌, ◌++◌, length, take, drop, get_or, refl, ap, sym, subst, ◌⊎◌, inl, inr, arith, length-append, length-take, length-drop}
use Rattle.std.specs.List.Sorted.{IsStrictlyIncreasing}
use Rattle.std.proofs.lemmas.Bool.{cases_lt}
use Rattle.std.proofs.lemmas.List.{get_or_append_left, get_or-append_right, get_or-take, get_or-drop, get_or_push}
use Rattle.std.proofs.lemmas.List.Kept.{AllPairs-from_increasing}

pub below_later : (xs : List ℕ) (i j : ℕ) → IsStrictlyIncreasing xs → i < j → j < length xs → get_or xs i 0 < get_or xs j 0
below_later xs i j up lt within = AllPairs-from_increasing xs up i j 0 lt within

pub le_later : (xs : List ℕ) (i j : ℕ) → IsStrictlyIncreasing xs → i ≤ j → j < length xs → get_or xs i 0 ≤ get_or xs j 0
le_later xs i j up le within = by (cases_lt i j)
  where
    by : (i < j) ⊎ (j ≤ i) → get_or xs i 0 ≤ get_or xs j 0
    by (inl l) = omega (arith, below_later xs i j up l within)
    by (inr r) = let e : i ≡ j = omega arith in omega (arith, ap (λ n. get_or xs n 0) e)

pub rising_none : IsStrictlyIncreasing []
rising_none k within = absurd (omega arith)

pub rising_one : (x : ℕ) → IsStrictlyIncreasing (x ∷ [])
rising_one x k within = absurd (omega arith)

pub rising_take : (xs : List ℕ) (i : ℕ) → IsStrictlyIncreasing xs → IsStrictlyIncreasing (take i xs)
rising_take xs i up k within =
    let few : k + 1 < i = omega (arith, length-take i xs) in
    let some : k + 1 < length xs = omega (arith, length-take i xs) in
    omega (arith, up k some, get_or-take i xs k 0 (omega arith), get_or-take i xs (k + 1) 0 few)

pub rising_drop : (xs : List ℕ) (i : ℕ) → IsStrictlyIncreasing xs → IsStrictlyIncreasing (drop i xs)
rising_drop xs i up k within =
    let some : i + (k + 1) < length xs = omega (arith, length-drop i xs) in
    omega (arith, below_later xs (i + k) (i + (k + 1)) up (omega arith) some, get_or-drop i xs k 0, get_or-drop i xs (k + 1) 0)

pub rising_join : (xs ys : List ℕ) → IsStrictlyIncreasing xs → IsStrictlyIncreasing ys
    → ((j k : ℕ) → j < length xs → k < length ys → get_or xs j 0 < get_or ys k 0) → IsStrictlyIncreasing (xs ++ ys)
rising_join xs ys up_xs up_ys across k within = by (cases_lt (k + 1) (length xs)) (cases_lt k (length xs))
  where
    by : ((k + 1) < length xs) ⊎ (length xs ≤ (k + 1)) → (k < length xs) ⊎ (length xs ≤ k) → get_or (xs ++ ys) k 0 < get_or (xs ++ ys) (k + 1) 0
    by (inl both) other = omega (arith, up_xs k both, get_or_append_left xs ys 0 k (omega arith), get_or_append_left xs ys 0 (k + 1) both)
    by (inr next) (inl here) =
        let n : (k + 1) - length xs ≡ 0 = omega arith in
        let some : 0 < length ys = omega (arith, length-append xs ys) in
        omega (arith, across k 0 here some, get_or_append_left xs ys 0 k here, get_or-append_right xs ys (length xs) (k + 1) 0 refl next, ap (λ m. get_or ys m 0) n)
    by (inr next) (inr past) =
        let n : (k + 1) - length xs ≡ (k - length xs) + 1 = omega arith in
        let some : (k - length xs) + 1 < length ys = omega (arith, length-append xs ys) in
        omega (arith, up_ys (k - length xs) some, get_or-append_right xs ys (length xs) k 0 refl past, get_or-append_right xs ys (length xs) (k + 1) 0 refl next, ap (λ m. get_or ys m 0) n)

-- what holds of each of a list and of one more
pub each_push : (P : ℕ → Type 0) (xs : List ℕ) (y : ℕ) → ((k : ℕ) → k < length xs → P (get_or xs k 0)) → P y → (k : ℕ) → k < length (xs ++ y ∷ []) → P (get_or (xs ++ y ∷ []) k 0)
each_push P xs y each last k within = by (cases_lt k (length xs))
  where
    by : (k < length xs) ⊎ (length xs ≤ k) → P (get_or (xs ++ y ∷ []) k 0)
    by (inl l) = subst P (sym (get_or_append_left xs (y ∷ []) 0 k l)) (each k l)
    by (inr r) = let e : length xs ≡ k = omega (arith, length-append xs (y ∷ [])) in subst P (sym (get_or_push xs y 0 k e)) last

pub rising_push : (xs : List ℕ) (y : ℕ) → IsStrictlyIncreasing xs → ((k : ℕ) → k < length xs → get_or xs k 0 < y) → IsStrictlyIncreasing (xs ++ y ∷ [])
rising_push xs y up below = rising_join xs (y ∷ []) up (rising_one y) (λ j k l m. let e : k ≡ 0 = omega arith in omega (arith, below j l, ap (λ n. get_or (y ∷ []) n 0) e))
