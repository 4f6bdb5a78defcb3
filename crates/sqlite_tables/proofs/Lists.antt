-- Puts and removals, up to the order of the rows, and parts of a list.
use Rattle.std.proofs.Common.{◌≡◌, ◌≤◌, ◌+◌, ◌-◌, ℕ, zero, suc, Bool, true, false, List, [], ◌∷◌, ◌++◌, length, take, drop, map, sym, ap, ◌∙◌, refl, arith, Ordering, Less, Equal, Greater, true≢false}
use Rattle.std.specs.List.{AllByRecursion, IsDistinct}
use Rattle.std.specs.List.Sorted.{IsPermutation}
use Rattle.std.specs.Ordering.{is_eq, match_ordering}
use Rattle.std.proofs.lemmas.Bool.{and_parts, or_parts, not-true}
use Rattle.std.proofs.lemmas.List.{drop-take, take-append-drop, take-map, take-take, take_rest}
use Rattle.std.proofs.lemmas.List.Sorted.{IsPermutation-refl, IsPermutation-sym, IsPermutation-cons, IsPermutation-trans, IsPermutation-append_right, IsPermutation-middle}
use Rattle.sqlite.specs.Order.{Row, value_cmp}
use Rattle.sqlite.specs.Tree.{rowid, put_row}
use Rattle.sqlite.specs.Edit.{put_all, is_taken, are_fresh}

-- a row whose rowid is free is put in beside the others
pub put_fresh : (new : Row) (rows : List Row) → is_taken rows new ≡ false → IsPermutation (new ∷ rows) (put_row new rows)
put_fresh new [] free = IsPermutation-refl _
put_fresh new (r ∷ rows) free = go (value_cmp (rowid r) (rowid new)) (or_parts _ _ free).0 (put_fresh new rows (or_parts _ _ free).1)
  where
    go : (o : Ordering) → is_eq o ≡ false → IsPermutation (new ∷ rows) (put_row new rows) → IsPermutation (new ∷ r ∷ rows) (match_ordering o (r ∷ put_row new rows) (new ∷ rows) (new ∷ r ∷ rows))
    go Less other later = IsPermutation-trans _ (r ∷ new ∷ rows) _ (IsPermutation-middle (new ∷ []) r rows) (IsPermutation-cons r _ _ later)
    go Equal other later = absurd (true≢false other)
    go Greater other later = IsPermutation-refl _

pub put_all_fresh : (news rows : List Row) → are_fresh rows news ≡ true → IsPermutation (news ++ rows) (put_all rows news)
put_all_fresh [] rows fresh = IsPermutation-refl _
put_all_fresh (n ∷ news) rows fresh =
    let parts = and_parts _ _ fresh in
    IsPermutation-trans _ (news ++ n ∷ rows) _ (IsPermutation-sym _ _ (IsPermutation-middle news n rows))
    (IsPermutation-trans _ (news ++ put_row n rows) _ (IsPermutation-append_right news _ _ (put_fresh n rows (not-true _ parts.0))) (put_all_fresh news (put_row n rows) parts.1))

-- ---- parts of a list

abbrev pub part : {A : Type 0} → ℕ → ℕ → List A → List A
part at count xs = take count (drop at xs)

-- what stands before a part, and then the part
pub take_part : {A : Type 0} (at count : ℕ) (xs : List A) → take (at + count) xs ≡ take at xs ++ part at count xs
take_part {A} at count xs =
    let whole = take (at + count) xs in
    let low : at ≤ at + count = omega arith in
    sym (take-append-drop at whole) ∙ (ap (λ (front : List A). front ++ drop at whole) (take-take at (at + count) xs low) ∙ ap (λ (back : List A). take at xs ++ back) (drop-take at count xs))

-- a part by where it begins and ends, and of what is left from its beginning on
pub part_between : {A : Type 0} (at count : ℕ) (xs : List A) → take (at + count - at) (drop at xs) ≡ part at count xs
part_between at count xs = let same : at + count - at ≡ count = omega arith in ap (λ (n : ℕ). take n (drop at xs)) same

pub part_of_rest : {A : Type 0} (at count : ℕ) (xs : List A) → take count (take (length xs - at) (drop at xs)) ≡ part at count xs
part_of_rest at count xs = ap (take count) (take_rest xs at)

map_drop : {A B : Type 0} (f : A → B) (n : ℕ) (xs : List A) → map f (drop n xs) ≡ drop n (map f xs)
map_drop f zero xs = refl
map_drop f (suc n) [] = refl
map_drop f (suc n) (x ∷ xs) = map_drop f n xs

pub map_part : {A B : Type 0} (f : A → B) (at count : ℕ) (xs : List A) → map f (part at count xs) ≡ part at count (map f xs)
map_part f at count xs = sym (take-map f count (drop at xs)) ∙ ap (take count) (map_drop f at xs)

pub all_take : {A : Type 0} (P : A → Type 0) (n : ℕ) (xs : List A) → AllByRecursion P xs → AllByRecursion P (take n xs)
all_take P zero xs all = tt
all_take P (suc n) [] all = tt
all_take P (suc n) (x ∷ xs) all = (all.0, all_take P n xs all.1)

all_drop : {A : Type 0} (P : A → Type 0) (n : ℕ) (xs : List A) → AllByRecursion P xs → AllByRecursion P (drop n xs)
all_drop P zero xs all = all
all_drop P (suc n) [] all = tt
all_drop P (suc n) (x ∷ xs) all = all_drop P n xs all.1

pub all_part : {A : Type 0} (P : A → Type 0) (at count : ℕ) (xs : List A) → AllByRecursion P xs → AllByRecursion P (part at count xs)
all_part P at count xs all = all_take P count (drop at xs) (all_drop P at xs all)

distinct_take : {A : Type 0} (same : A → A → Bool) (n : ℕ) (xs : List A) → IsDistinct same xs → IsDistinct same (take n xs)
unfolding IsDistinct
distinct_take same zero xs apart = tt
distinct_take same (suc n) [] apart = tt
distinct_take same (suc n) (x ∷ xs) apart = (all_take (λ y. same x y ≡ false) n xs apart.0, distinct_take same n xs apart.1)

distinct_drop : {A : Type 0} (same : A → A → Bool) (n : ℕ) (xs : List A) → IsDistinct same xs → IsDistinct same (drop n xs)
unfolding IsDistinct
distinct_drop same zero xs apart = apart
distinct_drop same (suc n) [] apart = tt
distinct_drop same (suc n) (x ∷ xs) apart = distinct_drop same n xs apart.1

pub distinct_part : {A : Type 0} (same : A → A → Bool) (at count : ℕ) (xs : List A) → IsDistinct same xs → IsDistinct same (part at count xs)
distinct_part same at count xs apart = distinct_take same count (drop at xs) (distinct_drop same at xs apart)
