-- The steps of a walk over two sets.
use Rattle.std.proofs.Common.{◌≡◌, ℕ, ◌+◌, ◌<◌, ◌≤◌, List, [], ◌∷◌, ◌++◌, length, take, drop, get_or, Bool, true, false, refl, ap, sym, ◌∙◌, subst, ◌⊎◌, inl, inr, arith, length-drop}
use Rattle.std.specs.Prelude.{◌&&◌, ◌||◌, not, nat_eq}
use Rattle.std.specs.List.Sorted.{IsStrictlyIncreasing}
use Rattle.std.proofs.lemmas.Bool.{cases_lt, eqb-true, false≢true}
use Rattle.std.proofs.lemmas.List.{get_or-drop, drop_all, append-nil}
use Rattle.idsets.specs.Sets.{has}
use Rattle.idsets.proofs.Having.{has_at, place_in, lacks, has-append, has_more, has_parts}
use Rattle.idsets.proofs.Rising.{below_later, le_later, rising_drop, rising_join, rising_push, each_push}

-- what was found so far is in order, and below all that is still to be looked at
pub record IsBefore (found ids : List ℕ) (at : ℕ) : Type 0 where
  pub within : at ≤ length ids
  pub below : (k m : ℕ) → k < length found → at ≤ m → m < length ids → get_or found k 0 < get_or ids m 0

-- the ids of two sets up to a place in each
pub record IsUnited (a b found : List ℕ) (i j : ℕ) : Type 0 where
  pub up : IsStrictlyIncreasing found
  pub left : IsBefore found a i
  pub right : IsBefore found b j
  pub ids : (id : ℕ) → has found id ≡ (has (take i a) id || has (take j b) id)

-- the ids of a set up to a place that the other set does not have
pub record IsRest (a b found : List ℕ) (i j : ℕ) : Type 0 where
  pub up : IsStrictlyIncreasing found
  pub left : IsBefore found a i
  pub within : j ≤ length b
  pub passed : (k m : ℕ) → k < j → i ≤ m → m < length a → get_or b k 0 < get_or a m 0
  pub ids : (id : ℕ) → has found id ≡ (has (take i a) id && not (has b id))

-- the ids of a set up to a place that the other list has too
pub record IsCommon (few many found : List ℕ) (i : ℕ) : Type 0 where
  pub up : IsStrictlyIncreasing found
  pub left : IsBefore found few i
  pub ids : (id : ℕ) → has found id ≡ (has (take i few) id && has many id)

pub before_none : (ids : List ℕ) → IsBefore [] ids 0
before_none ids = record { within = omega arith; below = λ k m l. absurd (omega arith) }

-- one more id was found, and the place is the next, or the same
push_before : (found ids : List ℕ) (at x next : ℕ) → at ≤ next → next ≤ length ids → IsBefore found ids at → ((m : ℕ) → next ≤ m → m < length ids → x < get_or ids m 0) → IsBefore (found ++ x ∷ []) ids next
push_before found ids at x next le within is above = record {
  within = within;
  below = λ k m l n o. each_push (λ y. y < get_or ids m 0) found x (λ q r. is.below q m r (omega arith) o) (above m n o) k l;
}

later_before : (found ids : List ℕ) (at : ℕ) → at < length ids → IsBefore found ids at → IsBefore found ids (at + 1)
later_before found ids at within is = record { within = omega arith; below = λ k m l n o. is.below k m l (omega arith) o }

rising_next : (found ids : List ℕ) (at : ℕ) → at < length ids → IsStrictlyIncreasing found → IsBefore found ids at → IsStrictlyIncreasing (found ++ get_or ids at 0 ∷ [])
rising_next found ids at within up is = rising_push found (get_or ids at 0) up (λ k l. is.below k at l (omega arith) within)

rising_all : (found ids : List ℕ) (at : ℕ) → IsStrictlyIncreasing found → IsStrictlyIncreasing ids → IsBefore found ids at → IsStrictlyIncreasing (found ++ drop at ids)
rising_all found ids at up up_ids is =
    rising_join found (drop at ids) up (rising_drop ids at up_ids)
    (λ j k l m. omega (arith, is.below j (at + k) l (omega arith) (omega (arith, length-drop at ids)), get_or-drop at ids k 0))

has_push : (xs : List ℕ) (y id : ℕ) → has (xs ++ y ∷ []) id ≡ (has xs id || (nat_eq id y || false))
has_push xs y id = has-append xs (y ∷ []) id

left_more : (p r n : Bool) → ((p || r) || (n || false)) ≡ ((p || n) || r)
left_more true r n = refl
left_more false true true = refl
left_more false true false = refl
left_more false false true = refl
left_more false false false = refl

right_more : (p r n : Bool) → ((p || r) || (n || false)) ≡ (p || (r || n))
right_more true r n = refl
right_more false true n = refl
right_more false false true = refl
right_more false false false = refl

both_more : (p r n : Bool) → ((p || r) || (n || false)) ≡ ((p || n) || (r || n))
both_more true r n = refl
both_more false true true = refl
both_more false true false = refl
both_more false false true = refl
both_more false false false = refl

four_parts : (p r q s : Bool) → (((p || r) || q) || s) ≡ ((p || q) || (r || s))
four_parts true r q s = refl
four_parts false true true s = refl
four_parts false true false s = refl
four_parts false false q s = refl

module _ (a b found : List ℕ) (i j : ℕ) (up_a : IsStrictlyIncreasing a) (up_b : IsStrictlyIncreasing b) where
  pub united_left : i < length a → j < length b → get_or a i 0 < get_or b j 0 → IsUnited a b found i j → IsUnited a b (found ++ get_or a i 0 ∷ []) (i + 1) j
  united_left l m lt is = record {
    up = rising_next found a i l is.up is.left;
    left = push_before found a i (get_or a i 0) (i + 1) (omega arith) (omega arith) is.left (λ n o q. below_later a i n up_a (omega arith) q);
    right = push_before found b j (get_or a i 0) j (omega arith) (omega arith) is.right (λ n o q. omega (arith, le_later b j n up_b o q));
    ids = λ id. has_push found (get_or a i 0) id ∙ ap (λ h. h || (nat_eq id (get_or a i 0) || false)) (is.ids id)
        ∙ left_more (has (take i a) id) (has (take j b) id) (nat_eq id (get_or a i 0)) ∙ ap (λ h. h || has (take j b) id) (sym (has_more a i id l));
  }

  pub united_right : i < length a → j < length b → get_or b j 0 < get_or a i 0 → IsUnited a b found i j → IsUnited a b (found ++ get_or b j 0 ∷ []) i (j + 1)
  united_right l m lt is = record {
    up = rising_next found b j m is.up is.right;
    left = push_before found a i (get_or b j 0) i (omega arith) (omega arith) is.left (λ n o q. omega (arith, le_later a i n up_a o q));
    right = push_before found b j (get_or b j 0) (j + 1) (omega arith) (omega arith) is.right (λ n o q. below_later b j n up_b (omega arith) q);
    ids = λ id. has_push found (get_or b j 0) id ∙ ap (λ h. h || (nat_eq id (get_or b j 0) || false)) (is.ids id)
        ∙ right_more (has (take i a) id) (has (take j b) id) (nat_eq id (get_or b j 0)) ∙ ap (λ h. has (take i a) id || h) (sym (has_more b j id m));
  }

  pub united_both : i < length a → j < length b → get_or b j 0 ≤ get_or a i 0 → get_or a i 0 ≤ get_or b j 0 → IsUnited a b found i j → IsUnited a b (found ++ get_or a i 0 ∷ []) (i + 1) (j + 1)
  united_both l m le ge is =
      let same : get_or b j 0 ≡ get_or a i 0 = omega arith in
      record {
        up = rising_next found a i l is.up is.left;
        left = push_before found a i (get_or a i 0) (i + 1) (omega arith) (omega arith) is.left (λ n o q. below_later a i n up_a (omega arith) q);
        right = push_before found b j (get_or a i 0) (j + 1) (omega arith) (omega arith) is.right (λ n o q. omega (arith, below_later b j n up_b (omega arith) q));
        ids = λ id. has_push found (get_or a i 0) id ∙ ap (λ h. h || (nat_eq id (get_or a i 0) || false)) (is.ids id)
            ∙ both_more (has (take i a) id) (has (take j b) id) (nat_eq id (get_or a i 0))
            ∙ ap (λ h. h || (has (take j b) id || nat_eq id (get_or a i 0))) (sym (has_more a i id l))
            ∙ ap (λ h. has (take (i + 1) a) id || h) (sym (has_more b j id m ∙ ap (λ x. has (take j b) id || nat_eq id x) same));
      }

  pub united_rises : (length a ≤ i) ⊎ (length b ≤ j) → IsUnited a b found i j → IsStrictlyIncreasing ((found ++ drop i a) ++ drop j b)
  united_rises (inl past) is =
      subst (λ l. IsStrictlyIncreasing (l ++ drop j b)) (sym (ap (λ l. found ++ l) (drop_all i a past) ∙ append-nil found)) (rising_all found b j is.up up_b is.right)
  united_rises (inr past) is =
      subst (λ l. IsStrictlyIncreasing ((found ++ drop i a) ++ l)) (sym (drop_all j b past))
      (subst IsStrictlyIncreasing (sym (append-nil (found ++ drop i a))) (rising_all found a i is.up up_a is.left))

  pub united_ids : IsUnited a b found i j → (id : ℕ) → has ((found ++ drop i a) ++ drop j b) id ≡ (has a id || has b id)
  united_ids is id =
      has-append (found ++ drop i a) (drop j b) id
      ∙ ap (λ h. h || has (drop j b) id) (has-append found (drop i a) id ∙ ap (λ h. h || has (drop i a) id) (is.ids id))
      ∙ four_parts (has (take i a) id) (has (take j b) id) (has (drop i a) id) (has (drop j b) id)
      ∙ ap (λ h. h || (has (take j b) id || has (drop j b) id)) (sym (has_parts a i id))
      ∙ ap (λ h. has a id || h) (sym (has_parts b j id))

kept_more : (p n h : Bool) → (n ≡ true → h ≡ false) → ((p && not h) || (n || false)) ≡ ((p || n) && not h)
kept_more true true true apart = absurd (false≢true (sym (apart refl)))
kept_more true true false apart = refl
kept_more true false true apart = refl
kept_more true false false apart = refl
kept_more false true true apart = absurd (false≢true (sym (apart refl)))
kept_more false true false apart = refl
kept_more false false true apart = refl
kept_more false false false apart = refl

dropped_more : (p n h : Bool) → (n ≡ true → h ≡ true) → (p && not h) ≡ ((p || n) && not h)
dropped_more true true true meets = refl
dropped_more true true false meets = refl
dropped_more true false true meets = refl
dropped_more true false false meets = refl
dropped_more false true true meets = refl
dropped_more false true false meets = absurd (false≢true (meets refl))
dropped_more false false true meets = refl
dropped_more false false false meets = refl

rest_parts : (p q h : Bool) → (q ≡ true → h ≡ false) → ((p && not h) || q) ≡ ((p || q) && not h)
rest_parts true true true apart = absurd (false≢true (sym (apart refl)))
rest_parts true true false apart = refl
rest_parts true false true apart = refl
rest_parts true false false apart = refl
rest_parts false true true apart = absurd (false≢true (sym (apart refl)))
rest_parts false true false apart = refl
rest_parts false false true apart = refl
rest_parts false false false apart = refl

met_more : (p n h : Bool) → (n ≡ true → h ≡ true) → ((p && h) || (n || false)) ≡ ((p || n) && h)
met_more true true true meets = refl
met_more true true false meets = absurd (false≢true (meets refl))
met_more true false true meets = refl
met_more true false false meets = refl
met_more false true true meets = refl
met_more false true false meets = absurd (false≢true (meets refl))
met_more false false true meets = refl
met_more false false false meets = refl

unmet_more : (p n h : Bool) → (n ≡ true → h ≡ false) → (p && h) ≡ ((p || n) && h)
unmet_more true true true apart = absurd (false≢true (sym (apart refl)))
unmet_more true true false apart = refl
unmet_more true false true apart = refl
unmet_more true false false apart = refl
unmet_more false true true apart = absurd (false≢true (sym (apart refl)))
unmet_more false true false apart = refl
unmet_more false false true apart = refl
unmet_more false false false apart = refl

module _ (a b found : List ℕ) (i j : ℕ) (up_a : IsStrictlyIncreasing a) (up_b : IsStrictlyIncreasing b) where
  pub rest_kept : i < length a → j < length b → get_or a i 0 < get_or b j 0 → IsRest a b found i j → IsRest a b (found ++ get_or a i 0 ∷ []) (i + 1) j
  rest_kept l m lt is = record {
    up = rising_next found a i l is.up is.left;
    left = push_before found a i (get_or a i 0) (i + 1) (omega arith) (omega arith) is.left (λ n o q. below_later a i n up_a (omega arith) q);
    within = is.within;
    passed = λ k n o q r. is.passed k n o (omega arith) r;
    ids = λ id. has_push found (get_or a i 0) id ∙ ap (λ h. h || (nat_eq id (get_or a i 0) || false)) (is.ids id)
        ∙ kept_more (has (take i a) id) (nat_eq id (get_or a i 0)) (has b id) (λ e. lacks b id (not_there id (eqb-true id (get_or a i 0) e)))
        ∙ ap (λ h. h && not (has b id)) (sym (has_more a i id l));
  }
    where
      not_there : (id : ℕ) → id ≡ get_or a i 0 → (k : ℕ) → k < length b → get_or b k 0 ≡ id → ⊥
      not_there id e k o q = by (cases_lt k j)
        where
          by : (k < j) ⊎ (j ≤ k) → ⊥
          by (inl less) = omega (arith, is.passed k i less (omega arith) l)
          by (inr more) = omega (arith, le_later b j k up_b more o)

  pub rest_both : i < length a → j < length b → get_or b j 0 ≤ get_or a i 0 → get_or a i 0 ≤ get_or b j 0 → IsRest a b found i j → IsRest a b found (i + 1) (j + 1)
  rest_both l m le ge is =
      let same : get_or b j 0 ≡ get_or a i 0 = omega arith in
      record {
        up = is.up;
        left = later_before found a i l is.left;
        within = omega arith;
        passed = λ k n o q r. omega (arith, le_later b k j up_b (omega arith) m, below_later a i n up_a (omega arith) r);
        ids = λ id. is.ids id
            ∙ dropped_more (has (take i a) id) (nat_eq id (get_or a i 0)) (has b id) (λ e. has_at b j id m (same ∙ sym (eqb-true id (get_or a i 0) e)))
            ∙ ap (λ h. h && not (has b id)) (sym (has_more a i id l));
      }

  pub rest_passed : i < length a → j < length b → get_or b j 0 < get_or a i 0 → IsRest a b found i j → IsRest a b found i (j + 1)
  rest_passed l m lt is = record {
    up = is.up;
    left = is.left;
    within = omega arith;
    passed = λ k n o q r. omega (arith, le_later b k j up_b (omega arith) m, le_later a i n up_a q r);
    ids = is.ids;
  }

  pub rest_rises : IsRest a b found i j → IsStrictlyIncreasing (found ++ drop i a)
  rest_rises is = rising_all found a i is.up up_a is.left

  pub rest_ids : (length a ≤ i) ⊎ (length b ≤ j) → IsRest a b found i j → (id : ℕ) → has (found ++ drop i a) id ≡ (has a id && not (has b id))
  rest_ids side is id =
      has-append found (drop i a) id ∙ ap (λ h. h || has (drop i a) id) (is.ids id)
      ∙ rest_parts (has (take i a) id) (has (drop i a) id) (has b id) (λ h. lacks b id (apart side (place_in (drop i a) id h)))
      ∙ ap (λ h. h && not (has b id)) (sym (has_parts a i id))
    where
      apart : (length a ≤ i) ⊎ (length b ≤ j) → (m : ℕ) × (m < length (drop i a)) × (get_or (drop i a) m 0 ≡ id) → (k : ℕ) → k < length b → get_or b k 0 ≡ id → ⊥
      apart (inl past) p k o q = omega (arith, length-drop i a, p.1)
      apart (inr past) p k o q =
          let n : i + p.0 < length a = omega (arith, length-drop i a, p.1) in
          omega (arith, is.passed k (i + p.0) (omega arith) (omega arith) n, get_or-drop i a p.0 0, p.2)

module _ (ids many found after : List ℕ) (i : ℕ) (up : IsStrictlyIncreasing ids) (within : i < length ids) (is : IsCommon ids many found i) where
  pub common_kept : has many (get_or ids i 0) ≡ true → after ≡ found ++ get_or ids i 0 ∷ [] → IsCommon ids many after (i + 1)
  common_kept there e = subst (λ l. IsCommon ids many l (i + 1)) (sym e) (record {
    up = rising_next found ids i within is.up is.left;
    left = push_before found ids i (get_or ids i 0) (i + 1) (omega arith) (omega arith) is.left (λ n o q. below_later ids i n up (omega arith) q);
    ids = λ id. has_push found (get_or ids i 0) id ∙ ap (λ h. h || (nat_eq id (get_or ids i 0) || false)) (is.ids id)
        ∙ met_more (has (take i ids) id) (nat_eq id (get_or ids i 0)) (has many id) (λ n. ap (has many) (eqb-true id (get_or ids i 0) n) ∙ there)
        ∙ ap (λ h. h && has many id) (sym (has_more ids i id within));
  })

  pub common_passed : has many (get_or ids i 0) ≡ false → after ≡ found → IsCommon ids many after (i + 1)
  common_passed absent e = subst (λ l. IsCommon ids many l (i + 1)) (sym e) (record {
    up = is.up;
    left = later_before found ids i within is.left;
    ids = λ id. is.ids id
        ∙ unmet_more (has (take i ids) id) (nat_eq id (get_or ids i 0)) (has many id) (λ n. ap (has many) (eqb-true id (get_or ids i 0) n) ∙ absent)
        ∙ ap (λ h. h && has many id) (sym (has_more ids i id within));
  })
