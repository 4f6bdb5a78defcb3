-- What is alive at a revision is what the history holds there.
use Rattle.std.proofs.Common.{◌≡◌, ℕ, ◌+◌, ◌<◌, ◌≤◌, List, [], ◌∷◌, refl, sym, ap, ◌∙◌, inl, inr, arith}
use Rattle.std.specs.Prelude.{Bool, true, false, cond, ◌&&◌, ◌||◌, ◌==◌, ◌⊎◌, map, filter, All, nat_le, nat_lt}
use Rattle.std.specs.List.{list_any}
use Rattle.std.specs.Ordering.{eq_by_cmp}
use Rattle.std.proofs.lemmas.Bool.{true≢false, or_cases, or_left, or_right, or_parts, and_parts, and_from, leb-true, ltb-true, eqb-true, eqb-false, lt-ltb, le-leb, eq-eqb}
use Rattle.names.specs.Order.{tuple_cmp, is_same_tuple}
use Rattle.names.specs.declared.tuple.Tuple.{Tuple}
use Rattle.meaning.specs.TupleSet as set
use Rattle.meaning.specs.TupleSet.{Tuples}
use Rattle.meaning.proofs.TupleSets.{contains_from_list, exact_tuples}
use Rattle.std.proofs.lemmas.Map.Views.{tells_apart}
use Rattle.store.specs.Written.{TupleSpan, IsSpan, Pairwise, is_alive, is_moved, tuples_of, is_put_at, are_apart, is_before}
use Rattle.store.proofs.Picking.{In, same_bool, found, any_in, all_in, any_same, any_no, pair_in}

-- a span of the tuple, for which a test is true
abbrev pub is_of : Tuple → (TupleSpan → Bool) → TupleSpan → Bool
is_of t test l = is_same_tuple t l.tuple && test l

pub one_tuple : (x y : Tuple) → is_same_tuple x y ≡ true → x ≡ y
one_tuple = tells_apart exact_tuples

-- what a set of such tuples has
any_kept : (t : Tuple) (test : TupleSpan → Bool) (spans : List TupleSpan) → list_any (eq_by_cmp tuple_cmp t) (map (λ l. l.tuple) (filter test spans)) ≡ list_any (is_of t test) spans
any_kept t test [] = refl
any_kept t test (l ∷ ls) = by_test (test l) (any_kept t test ls)
  where
    by_test : (b : Bool) → list_any (eq_by_cmp tuple_cmp t) (map (λ l. l.tuple) (filter test ls)) ≡ list_any (is_of t test) ls
        → list_any (eq_by_cmp tuple_cmp t) (map (λ l. l.tuple) (cond b (l ∷ filter test ls) (filter test ls))) ≡ ((is_same_tuple t l.tuple && b) || list_any (is_of t test) ls)
    by_test true rest = by_same (is_same_tuple t l.tuple)
      where
        by_same : (s : Bool) → (s || list_any (eq_by_cmp tuple_cmp t) (map (λ l. l.tuple) (filter test ls))) ≡ ((s && true) || list_any (is_of t test) ls)
        by_same true = refl
        by_same false = rest
    by_test false rest = rest ∙ by_same (is_same_tuple t l.tuple)
      where
        by_same : (s : Bool) → list_any (is_of t test) ls ≡ ((s && false) || list_any (is_of t test) ls)
        by_same true = refl
        by_same false = refl

pub contains_of : (test : TupleSpan → Bool) (spans : List TupleSpan) (t : Tuple) → set.contains (tuples_of test spans) t ≡ list_any (is_of t test) spans
contains_of test spans t = contains_from_list (map (λ l. l.tuple) (filter test spans)) t ∙ any_kept t test spans

-- ---- what the tests say

pub alive_says : (rev : ℕ) (l : TupleSpan) → is_alive rev l ≡ true → (l.added ≤ rev) × ((l.removed ≡ 0) ⊎ (rev < l.removed))
alive_says rev l h =
    let p = and_parts (nat_le l.added rev) ((l.removed == 0) || nat_lt rev l.removed) h in
    (leb-true l.added rev p.0, open_or (or_cases (l.removed == 0) (nat_lt rev l.removed) p.1))
  where
    open_or : ((l.removed == 0) ≡ true) ⊎ (nat_lt rev l.removed ≡ true) → (l.removed ≡ 0) ⊎ (rev < l.removed)
    open_or (inl e) = inl (eqb-true l.removed 0 e)
    open_or (inr e) = inr (ltb-true rev l.removed e)

pub alive_from : (rev : ℕ) (l : TupleSpan) → l.added ≤ rev → (l.removed ≡ 0) ⊎ (rev < l.removed) → is_alive rev l ≡ true
alive_from rev l begun ends = and_from (nat_le l.added rev) _ (le-leb l.added rev begun) (by_end ends)
  where
    by_end : (l.removed ≡ 0) ⊎ (rev < l.removed) → ((l.removed == 0) || nat_lt rev l.removed) ≡ true
    by_end (inl e) = or_left (l.removed == 0) _ (eq-eqb l.removed 0 e)
    by_end (inr e) = or_right (l.removed == 0) _ (lt-ltb rev l.removed e)

pub moved_says : (rev : ℕ) (l : TupleSpan) → is_moved rev l ≡ true → (l.added ≡ rev) ⊎ (l.removed ≡ rev)
moved_says rev l h = by_which (or_cases (l.added == rev) (l.removed == rev) h)
  where
    by_which : ((l.added == rev) ≡ true) ⊎ ((l.removed == rev) ≡ true) → (l.added ≡ rev) ⊎ (l.removed ≡ rev)
    by_which (inl e) = inl (eqb-true l.added rev e)
    by_which (inr e) = inr (eqb-true l.removed rev e)

pub unmoved_says : (rev : ℕ) (l : TupleSpan) → is_moved rev l ≡ false → (l.added ≡ rev → ⊥) × (l.removed ≡ rev → ⊥)
unmoved_says rev l h = let p = or_parts (l.added == rev) (l.removed == rev) h in (eqb-false l.added rev p.0, eqb-false l.removed rev p.1)

-- a span that neither begins nor ends at a revision is alive there as before it
pub alive_still : (rev : ℕ) (l : TupleSpan) → is_moved (rev + 1) l ≡ false → is_alive (rev + 1) l ≡ is_alive rev l
alive_still rev l h =
    let still = unmoved_says (rev + 1) l h in
    same_bool (is_alive (rev + 1) l) (is_alive rev l) (λ a. back still (alive_says (rev + 1) l a)) (λ a. on still (alive_says rev l a))
  where
    back : (l.added ≡ rev + 1 → ⊥) × (l.removed ≡ rev + 1 → ⊥) → (l.added ≤ rev + 1) × ((l.removed ≡ 0) ⊎ (rev + 1 < l.removed)) → is_alive rev l ≡ true
    back still says = alive_from rev l (before (says.0) (still.0)) (ends says.1)
      where
        before : l.added ≤ rev + 1 → (l.added ≡ rev + 1 → ⊥) → l.added ≤ rev
        before a b = omega (arith, a, b)

        ends : (l.removed ≡ 0) ⊎ (rev + 1 < l.removed) → (l.removed ≡ 0) ⊎ (rev < l.removed)
        ends (inl e) = inl e
        ends (inr e) = inr (omega (arith, e))

    on : (l.added ≡ rev + 1 → ⊥) × (l.removed ≡ rev + 1 → ⊥) → (l.added ≤ rev) × ((l.removed ≡ 0) ⊎ (rev < l.removed)) → is_alive (rev + 1) l ≡ true
    on still says = alive_from (rev + 1) l (omega (arith, says.0)) (ends (still.1) says.1)
      where
        ends : (l.removed ≡ rev + 1 → ⊥) → (l.removed ≡ 0) ⊎ (rev < l.removed) → (l.removed ≡ 0) ⊎ (rev + 1 < l.removed)
        ends b (inl e) = inl e
        ends b (inr e) = inr (omega (arith, e, b))

-- what begins at a revision is alive there
pub alive_first : (floor newest rev : ℕ) (l : TupleSpan) → IsSpan floor newest l → l.added ≡ rev → is_alive rev l ≡ true
alive_first floor newest rev l span e = alive_from rev l (omega (arith, e)) (by_end span.ends)
  where
    by_end : (l.removed ≡ 0) ⊎ ((l.added < l.removed) × (floor < l.removed) × (l.removed ≤ newest)) → (l.removed ≡ 0) ⊎ (rev < l.removed)
    by_end (inl o) = inl o
    by_end (inr c) = let d = c.0 in inr (omega (arith, d, e))

-- ---- one span ends where the other begins, or before

pub apart_both : (a b : TupleSpan) → are_apart a b ≡ are_apart b a
apart_both a b = by_same (is_same_tuple a.tuple b.tuple) refl (is_same_tuple b.tuple a.tuple) refl
  where
    turned : (x y : Bool) → (x || y) ≡ (y || x)
    turned true true = refl
    turned true false = refl
    turned false true = refl
    turned false false = refl

    alike : (x y : Tuple) → is_same_tuple x y ≡ true → is_same_tuple y x ≡ true
    alike x y h = let e = one_tuple x y h in ap (λ v. is_same_tuple y v) e ∙ ap (λ v. is_same_tuple v y) (sym e) ∙ h

    by_same : (s : Bool) → is_same_tuple a.tuple b.tuple ≡ s → (r : Bool) → is_same_tuple b.tuple a.tuple ≡ r → cond s (is_before a b || is_before b a) true ≡ cond r (is_before b a || is_before a b) true
    by_same true e true f = turned (is_before a b) (is_before b a)
    by_same true e false f = absurd (true≢false (sym (alike a.tuple b.tuple e) ∙ f))
    by_same false e true f = absurd (true≢false (sym (alike b.tuple a.tuple f) ∙ e))
    by_same false e false f = refl

before_says : (a b : TupleSpan) → is_before a b ≡ true → (0 < a.removed) × (a.removed ≤ b.added)
before_says a b h = let p = and_parts (nat_lt 0 a.removed) (nat_le a.removed b.added) h in (ltb-true 0 a.removed p.0, leb-true a.removed b.added p.1)

pub apart_says : (a b : TupleSpan) → is_same_tuple a.tuple b.tuple ≡ true → are_apart a b ≡ true
    → ((0 < a.removed) × (a.removed ≤ b.added)) ⊎ ((0 < b.removed) × (b.removed ≤ a.added))
apart_says a b same h = by_which (or_cases (is_before a b) (is_before b a) (sym (ap (λ s. cond s (is_before a b || is_before b a) true) same) ∙ h))
  where
    by_which : (is_before a b ≡ true) ⊎ (is_before b a ≡ true) → ((0 < a.removed) × (a.removed ≤ b.added)) ⊎ ((0 < b.removed) × (b.removed ≤ a.added))
    by_which (inl e) = inl (before_says a b e)
    by_which (inr e) = inr (before_says b a e)

same_as : (t x y : Tuple) → is_same_tuple t x ≡ true → is_same_tuple t y ≡ true → is_same_tuple x y ≡ true
same_as t x y p q = ap (λ v. is_same_tuple v y) (sym (one_tuple t x p)) ∙ q

-- where a tuple's span ends at a revision, another that is alive there begins there
begins_there : (floor newest rev : ℕ) (a b : TupleSpan) → IsSpan floor newest a → is_same_tuple a.tuple b.tuple ≡ true → (a ≡ b) ⊎ (are_apart a b ≡ true) → a.removed ≡ rev → 0 < rev → is_alive rev b ≡ true → b.added ≡ rev
begins_there floor newest rev a b span same (inl e) ended some alive = absurd (still (alive_says rev b alive).1 (sym (ap (λ l. l.removed) e) ∙ ended))
  where
    still : (b.removed ≡ 0) ⊎ (rev < b.removed) → b.removed ≡ rev → ⊥
    still (inl z) r = omega (arith, z, r, some)
    still (inr z) r = omega (arith, z, r)
begins_there floor newest rev a b span same (inr apart) ended some alive = by_order (apart_says a b same apart) (alive_says rev b alive) span.ends
  where
    by_order : ((0 < a.removed) × (a.removed ≤ b.added)) ⊎ ((0 < b.removed) × (b.removed ≤ a.added)) → (b.added ≤ rev) × ((b.removed ≡ 0) ⊎ (rev < b.removed))
        → (a.removed ≡ 0) ⊎ ((a.added < a.removed) × (floor < a.removed) × (a.removed ≤ newest)) → b.added ≡ rev
    by_order (inl o) says ends = let x = o.1 in let y = says.0 in omega (arith, x, y, ended)
    by_order (inr o) says (inl z) = absurd (omega (arith, z, ended, some))
    by_order (inr o) says (inr z) = absurd (late o z.0 says.1)
      where
        late : (0 < b.removed) × (b.removed ≤ a.added) → a.added < a.removed → (b.removed ≡ 0) ⊎ (rev < b.removed) → ⊥
        late o z (inl w) = let x = o.0 in omega (arith, x, w)
        late o z (inr w) = let x = o.1 in omega (arith, x, z, w, ended)

-- ---- from one revision to the next

module _ (floor newest : ℕ) (spans : List TupleSpan) (spans_are : All (IsSpan floor newest) spans) (apart : Pairwise are_apart spans) (rev : ℕ) (t : Tuple) where
  -- what is alive at the next revision, where the tuple comes or goes there
  alive_put : list_any (is_of t (is_moved (rev + 1))) spans ≡ true → list_any (is_of t (is_alive (rev + 1))) spans ≡ true → is_put_at (rev + 1) spans t ≡ true
  alive_put moved alive = by_move (found (is_of t (is_moved (rev + 1))) spans moved) (found (is_of t (is_alive (rev + 1))) spans alive)
    where
      puts : (l : TupleSpan) → In l spans → is_same_tuple t l.tuple ≡ true → l.added ≡ rev + 1 → is_put_at (rev + 1) spans t ≡ true
      puts l i same e = any_in (λ l. is_same_tuple t l.tuple && (l.added == (rev + 1))) spans l i (and_from (is_same_tuple t l.tuple) _ same (eq-eqb l.added (rev + 1) e))

      by_move : (a : TupleSpan) × In a spans × (is_of t (is_moved (rev + 1)) a ≡ true) → (b : TupleSpan) × In b spans × (is_of t (is_alive (rev + 1)) b ≡ true) → is_put_at (rev + 1) spans t ≡ true
      by_move (a, in_a, ha) (b, in_b, hb) =
          let pa = and_parts (is_same_tuple t a.tuple) (is_moved (rev + 1) a) ha in
          let pb = and_parts (is_same_tuple t b.tuple) (is_alive (rev + 1) b) hb in
          by_kind (moved_says (rev + 1) a pa.1) pa.0 pb.0 pb.1
        where
          by_kind : (a.added ≡ rev + 1) ⊎ (a.removed ≡ rev + 1) → is_same_tuple t a.tuple ≡ true → is_same_tuple t b.tuple ≡ true → is_alive (rev + 1) b ≡ true → is_put_at (rev + 1) spans t ≡ true
          by_kind (inl e) sa sb ab = puts a in_a sa e
          by_kind (inr e) sa sb ab =
              puts b in_b sb (begins_there floor newest (rev + 1) a b (all_in (IsSpan floor newest) spans spans_are a in_a) (same_as t a.tuple b.tuple sa sb)
              (pair_in are_apart apart_both spans apart a b in_a in_b) e (omega arith) ab)

  put_alive : is_put_at (rev + 1) spans t ≡ true → list_any (is_of t (is_alive (rev + 1))) spans ≡ true
  put_alive put = by_put (found (λ l. is_same_tuple t l.tuple && (l.added == (rev + 1))) spans put)
    where
      by_put : (a : TupleSpan) × In a spans × ((is_same_tuple t a.tuple && (a.added == (rev + 1))) ≡ true) → list_any (is_of t (is_alive (rev + 1))) spans ≡ true
      by_put (a, in_a, ha) =
          let pa = and_parts (is_same_tuple t a.tuple) (a.added == (rev + 1)) ha in
          any_in (is_of t (is_alive (rev + 1))) spans a in_a
          (and_from (is_same_tuple t a.tuple) _ pa.0 (alive_first floor newest (rev + 1) a (all_in (IsSpan floor newest) spans spans_are a in_a) (eqb-true a.added (rev + 1) pa.1)))

  unmoved : list_any (is_of t (is_moved (rev + 1))) spans ≡ false → list_any (is_of t (is_alive (rev + 1))) spans ≡ list_any (is_of t (is_alive rev)) spans
  unmoved h = any_same (is_of t (is_alive (rev + 1))) (is_of t (is_alive rev)) spans (λ l i. each l (any_no (is_of t (is_moved (rev + 1))) spans h l i))
    where
      each : (l : TupleSpan) → (is_same_tuple t l.tuple && is_moved (rev + 1) l) ≡ false → (is_same_tuple t l.tuple && is_alive (rev + 1) l) ≡ (is_same_tuple t l.tuple && is_alive rev l)
      each l still = by_same (is_same_tuple t l.tuple) still
        where
          by_same : (s : Bool) → (s && is_moved (rev + 1) l) ≡ false → (s && is_alive (rev + 1) l) ≡ (s && is_alive rev l)
          by_same true still = alive_still rev l still
          by_same false still = refl

  pub alive_next : list_any (is_of t (is_alive (rev + 1))) spans ≡ cond (list_any (is_of t (is_moved (rev + 1))) spans) (is_put_at (rev + 1) spans t) (list_any (is_of t (is_alive rev)) spans)
  alive_next = by_moved (list_any (is_of t (is_moved (rev + 1))) spans) refl
    where
      by_moved : (m : Bool) → list_any (is_of t (is_moved (rev + 1))) spans ≡ m → list_any (is_of t (is_alive (rev + 1))) spans ≡ cond m (is_put_at (rev + 1) spans t) (list_any (is_of t (is_alive rev)) spans)
      by_moved true m = same_bool _ _ (alive_put m) put_alive
      by_moved false m = unmoved m
