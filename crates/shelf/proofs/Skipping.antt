-- A walk that passes over texts below a text.
use Rattle.std.proofs.Common.{◌≡◌, ℕ, zero, suc, ◌+◌, ◌-◌, ◌<◌, ◌≤◌, List, [], ◌∷◌, ◌++◌, length, take, drop, get_or, ap, sym, ◌∙◌, arith, append_assoc, length-append, inl, inr}
use Rattle.std.specs.Prelude.{max, ◌⊎◌}
use Rattle.std.proofs.lemmas.Bool.{cases_lt}
use Rattle.std.specs.BTreeMap.Range.{entries_between}
use Rattle.std.specs.declared.ops.Bound.TheVariants.{Included, Unbounded}
use Rattle.std.proofs.lemmas.List.{take-append-drop, drop-append-le, length-take-le, drop-drop}
use Rattle.shelf.specs.Texts.{text_cmp}
use Rattle.shelf.specs.inside.Places.{AreBelow, AreFrom, IsPlace, IsBlockOf, joined}
use Rattle.shelf.specs.inside.Walks.{IsInside, rest}
use Rattle.shelf.proofs.Looking.{below_append, from_append, above_from_key, between_split, all_is, block_is}
use Rattle.shelf.proofs.Order.{joined_at}

module _ {V : Type 0} (key : List ℕ) where
  from_drop : (ys : List (List ℕ × V)) (n : ℕ) → AreFrom key ys → AreFrom key (drop n ys)
  from_drop ys zero h = h
  from_drop [] (suc n) h = h
  from_drop (y ∷ ys) (suc n) h = from_drop ys n h.1

  between_after : (xs ys : List (List ℕ × V)) (n : ℕ) → AreBelow key xs → AreFrom key ys → entries_between text_cmp (Included key) Unbounded (drop n (xs ++ ys)) ≡ drop (n - length xs) ys
  between_after [] ys n h k = between_split key [] (drop n ys) tt (from_drop ys n k) ∙ ap (λ m. drop m ys) (let e : n ≡ n - 0 = omega arith in e)
  between_after (x ∷ xs) ys zero h k = between_split key (x ∷ xs) ys h k ∙ ap (λ m. drop m ys) (let e : 0 ≡ 0 - length (x ∷ xs) = omega arith in e)
  between_after (x ∷ xs) ys (suc n) h k = between_after xs ys n h.1 k ∙ ap (λ m. drop m ys) (let e : n - length xs ≡ suc n - length (x ∷ xs) = omega arith in e)

  first_long : (bs : List (List (List ℕ × V))) (at index : ℕ) → 0 < at → IsInside bs index → index ≤ length (joined (take at bs))
  first_long [] at index some inside = omega (arith, inside)
  first_long (b ∷ bs) zero index some inside = absurd (omega arith)
  first_long (b ∷ bs) (suc at) index some inside = omega (arith, length-append b (joined (take at bs)), inside)

  module _ (at : ℕ) (bs : List (List (List ℕ × V))) (is : IsBlockOf key at bs) (b : List (List ℕ × V)) (reads : b ≡ get_or bs at b) (place : ℕ) (there : IsPlace key place b) where
    parts : joined bs ≡ (joined (take at bs) ++ take place b) ++ (drop place b ++ joined (drop (suc at) bs))
    parts =
        all_is key at bs is b reads
        ∙ ap (λ es. joined (take at bs) ++ (es ++ joined (drop (suc at) bs))) (sym (take-append-drop place b))
        ∙ ap (λ es. joined (take at bs) ++ es) (append_assoc (take place b) (drop place b) (joined (drop (suc at) bs)))
        ∙ sym (append_assoc (joined (take at bs)) (take place b) (drop place b ++ joined (drop (suc at) bs)))

    at_place : drop place (joined (drop at bs)) ≡ drop place b ++ joined (drop (suc at) bs)
    at_place =
        ap (drop place) (joined_at bs at is.within ∙ ap (λ es. es ++ joined (drop (suc at) bs)) (sym (block_is key at bs is b reads)))
        ∙ drop-append-le place b (joined (drop (suc at) bs)) there.within

    passed_over : (index : ℕ) → entries_between text_cmp (Included key) Unbounded (drop index (joined bs)) ≡ drop (index - length (joined (take at bs) ++ take place b)) (drop place b ++ joined (drop (suc at) bs))
    passed_over index =
        ap (λ es. entries_between text_cmp (Included key) Unbounded (drop index es)) parts
        ∙ between_after (joined (take at bs) ++ take place b) (drop place b ++ joined (drop (suc at) bs)) index
        (below_append key (joined (take at bs)) (take place b) is.below there.below) (from_append key (drop place b) (joined (drop (suc at) bs)) there.from (above_from_key key (joined (drop (suc at) bs)) is.above))

    front_long : length (joined (take at bs) ++ take place b) ≡ length (joined (take at bs)) + place
    front_long = length-append (joined (take at bs)) (take place b) ∙ ap (λ n. length (joined (take at bs)) + n) (length-take-le place b there.within)

    -- in another block, or at a place that is not passed yet
    pub ahead : (index : ℕ) → index ≤ length (joined (take at bs)) + place → drop place (joined (drop at bs)) ≡ entries_between text_cmp (Included key) Unbounded (rest bs index)
    ahead index h =
        at_place ∙ sym (passed_over index ∙ ap (λ n. drop n (drop place b ++ joined (drop (suc at) bs))) (let e : index - length (joined (take at bs) ++ take place b) ≡ 0 = omega (arith, front_long) in e))

    -- in the current block, where the place is passed
    pub behind : (index : ℕ) → at ≡ 0 → place ≤ index → drop index (joined (drop at bs)) ≡ entries_between text_cmp (Included key) Unbounded (rest bs index)
    behind index first h =
        ap (λ n. drop n (joined (drop at bs))) (let e : index ≡ place + (index - place) = omega arith in e)
        ∙ sym (drop-drop (index - place) place (joined (drop at bs)))
        ∙ ap (drop (index - place)) at_place
        ∙ sym (passed_over index ∙ ap (λ n. drop n (drop place b ++ joined (drop (suc at) bs))) (let e : index - length (joined (take at bs) ++ take place b) ≡ index - place = omega (arith, front_long, none) in e))
      where
        none : length (joined (take at bs)) ≡ 0
        none = ap (λ n. length (joined (take n bs))) first

    pub in_first : (index passed : ℕ) → at ≡ 0 → index ≡ max place passed → drop index (joined (drop at bs)) ≡ entries_between text_cmp (Included key) Unbounded (rest bs passed)
    in_first index passed first is = by_place (cases_lt place passed)
      where
        by_place : (place < passed) ⊎ (passed ≤ place) → drop index (joined (drop at bs)) ≡ entries_between text_cmp (Included key) Unbounded (rest bs passed)
        by_place (inl less) = ap (λ n. drop n (joined (drop at bs))) (let e : index ≡ passed = omega arith in e) ∙ behind passed first (omega arith)
        by_place (inr more) = ap (λ n. drop n (joined (drop at bs))) (let e : index ≡ place = omega arith in e) ∙ ahead passed (omega arith)

    pub in_later : (index passed : ℕ) → 0 < at → IsInside bs passed → index ≡ place → drop index (joined (drop at bs)) ≡ entries_between text_cmp (Included key) Unbounded (rest bs passed)
    in_later index passed later inside is = ap (λ n. drop n (joined (drop at bs))) is ∙ ahead passed (omega (arith, first_long bs at passed later inside))
