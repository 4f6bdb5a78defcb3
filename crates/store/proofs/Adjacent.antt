-- Rows that are tested two by two, in their order.
use Rattle.std.proofs.Common.{◌≡◌, ℕ, ◌+◌, ◌-◌, ◌<◌, ◌≤◌, ◌⊎◌, inl, inr, List, [], ◌∷◌, length, get_or, zero, suc, refl, ap, sym, subst, ◌∙◌, arith}
use Rattle.std.specs.Prelude.{Bool, true, false, cond, ◌||◌, ◌==◌, nat_lt, map, All}
use Rattle.std.specs.List.{AllAdjacentBelow}
use Rattle.std.proofs.lemmas.Bool.{true≢false, cases_lt, or_cases, ltb-true, eq-eqb}
use Rattle.std.proofs.lemmas.List.{get_or_default}
use Rattle.std.proofs.lemmas.List.Elements.{All-head, All-tail}
use Rattle.std.specs.Ordering.{nat_cmp, is_lt, is_eq, ordering_then, ordering_reverse}
use Rattle.std.specs.declared.cmp.Ordering.{Ordering}
use Rattle.std.specs.declared.cmp.Ordering.TheVariants.{Less, Equal, Greater}
use Rattle.std.proofs.lemmas.Map.Keys.{ge_from_not_lt}
use Rattle.names.specs.Order.{tuple_cmp, is_same_tuple}
use Rattle.meaning.proofs.TupleSets.{tuples_total, exact_tuples}
use Rattle.store.specs.Written.{TupleSpan, ConfigAt, IsSpan, Pairwise, are_apart, are_distinct}
use Rattle.store.specs.inside.Following.{Precedes}
use Rattle.store.specs.inside.Reading.{as_span, as_config}
use Rattle.store.specs.Refused.{IsListed}
use Rattle.store.specs.declared.parts.ReadSpan.{ReadSpan}
use Rattle.store.specs.declared.parts.ReadConfig.{ReadConfig}
use Rattle.store.proofs.Living.{apart_says}
use Rattle.store.proofs.Moving.{same_self}

pub all_at : {A B : Type 0} (P : B → Type 0) (f : A → B) (xs : List A) → All P (map f xs) → (j : ℕ) (d : A) → j < length xs → P (f (get_or xs j d))
all_at P f [] h j d lt = absurd (omega (arith, lt))
all_at P f (x ∷ xs) h zero d lt = All-head P (f x) (map f xs) h
all_at P f (x ∷ xs) h (suc j) d lt = all_at P f xs (All-tail P (f x) (map f xs) h) j d (omega (arith, lt))

pair_at : {A B : Type 0} (f : A → B) (test : B → B → Bool) (xs : List A) → Pairwise test (map f xs) → (i j : ℕ) (d : A) → i < j → j < length xs → test (f (get_or xs i d)) (f (get_or xs j d)) ≡ true
pair_at f test [] h i j d le lt = absurd (omega (arith, lt))
pair_at f test (x ∷ xs) h i zero d le lt = absurd (omega (arith, le))
pair_at f test (x ∷ xs) h zero (suc j) d le lt = all_at (λ y. test (f x) y ≡ true) f xs h.0 j d (omega (arith, lt))
pair_at f test (x ∷ xs) h (suc i) (suc j) d le lt = pair_at f test xs h.1 i j d (omega (arith, le)) (omega (arith, lt))

pub pair_in_order : {A : Type 0} (test : A → A → Bool) (xs : List A) → Pairwise test xs → (i j : ℕ) (d : A) → i < j → j < length xs → test (get_or xs i d) (get_or xs j d) ≡ true
pair_in_order test [] h i j d le lt = absurd (omega (arith, lt))
pair_in_order test (x ∷ xs) h i zero d le lt = absurd (omega (arith, le))
pair_in_order test (x ∷ xs) h zero (suc j) d le lt = h.0 j d (omega (arith, lt))
pair_in_order test (x ∷ xs) h (suc i) (suc j) d le lt = pair_in_order test xs h.1 i j d (omega (arith, le)) (omega (arith, lt))

-- what holds of the elements at two places
at_both : {A : Type 0} (R : A → A → Type 0) (xs : List A) (i j : ℕ) (x y : A) → i < length xs → j < length xs → x ≡ get_or xs i x → y ≡ get_or xs j y → R (get_or xs i x) (get_or xs j x) → R x y
at_both {A} R xs i j x y p q e f h =
    let P : A → Type 0 = λ a. R a y in
    let Q : A → Type 0 = λ b. R (get_or xs i x) b in
    subst P (sym e) (subst Q (sym (f ∙ get_or_default xs j y x q)) h)

before : {A : Type 0} (R : A → A → Type 0) (xs : List A) (i : ℕ) (x y : A) → 0 < i → i < length xs → x ≡ get_or xs (i - 1) x → y ≡ get_or xs i y → AllAdjacentBelow R xs (length xs) → R x y
before {A} R xs i x y some lt e f adj =
    let P : ℕ → Type 0 = λ n. R (get_or xs (i - 1) x) (get_or xs n x) in
    let same : i - 1 + 1 ≡ i = omega (arith, some) in
    at_both R xs (i - 1) i x y (omega (arith, some, lt)) lt e f (subst P same (adj (i - 1) x (omega (arith, some, lt))))

-- ---- spans

first_rises : (a b : ℕ) (rest : Ordering) → is_lt (ordering_then (nat_cmp b a) rest) ≡ false → a ≤ b
first_rises a b rest h = ge_from_not_lt b a (by_order (nat_cmp b a) h)
  where
    by_order : (o : Ordering) → is_lt (ordering_then o rest) ≡ false → is_lt o ≡ false
    by_order Less e = e
    by_order Equal e = refl
    by_order Greater e = refl

-- what a sort says of each span and the next
pub listed_from : (a b : ReadSpan) → is_lt (ordering_then (tuple_cmp b.tuple a.tuple) (ordering_then (nat_cmp b.added a.added) (nat_cmp b.removed a.removed))) ≡ false → IsListed (as_span a) (as_span b)
listed_from a b h = by_tuple (tuple_cmp a.tuple b.tuple) refl
  where
    by_tuple : (o : Ordering) → tuple_cmp a.tuple b.tuple ≡ o → IsListed (as_span a) (as_span b)
    by_tuple Less e = inl e
    by_tuple Equal e = inr (
      exact_tuples a.tuple b.tuple e,
      first_rises a.added b.added (nat_cmp b.removed a.removed)
          (ap (λ o. is_lt (ordering_then o (ordering_then (nat_cmp b.added a.added) (nat_cmp b.removed a.removed)))) (sym (tuples_total.antisymm b.tuple a.tuple ∙ ap ordering_reverse e)) ∙ h),
    )
    by_tuple Greater e = absurd (true≢false (
        ap (λ o. is_lt (ordering_then o (ordering_then (nat_cmp b.added a.added) (nat_cmp b.removed a.removed)))) (sym (tuples_total.antisymm b.tuple a.tuple ∙ ap ordering_reverse e)) ∙ h))

pub greater_refused : (a b : TupleSpan) → Greater ≡ tuple_cmp a.tuple b.tuple → Precedes a b → ⊥
greater_refused a b e (inl less) = never (e ∙ less)
  where
    never : Greater ≡ Less → ⊥
    never e = cc
greater_refused a b e (inr same) = true≢false (sym (same_self a.tuple) ∙ ap (is_same_tuple a.tuple) same.0 ∙ ap is_eq (sym e))

listed_apart : (floor newest : ℕ) (a b : TupleSpan) → IsListed a b → IsSpan floor newest b → are_apart a b ≡ true → Precedes a b
listed_apart floor newest a b (inl l) span apart = inl l
listed_apart floor newest a b (inr l) span apart = by_order (apart_says a b (ap (is_same_tuple a.tuple) (sym l.0) ∙ same_self a.tuple) apart)
  where
    never : 0 < b.removed → b.removed ≤ a.added → (b.removed ≡ 0) ⊎ ((b.added < b.removed) × (floor < b.removed) × (b.removed ≤ newest)) → ⊥
    never p q (inl z) = omega (arith, p, z)
    never p q (inr z) = let s = z.0 in let t = l.1 in omega (arith, q, s, t)

    by_order : ((0 < a.removed) × (a.removed ≤ b.added)) ⊎ ((0 < b.removed) × (b.removed ≤ a.added)) → Precedes a b
    by_order (inl o) = inr (l.0, o.0, o.1)
    by_order (inr o) = absurd (never o.0 o.1 span.ends)

pub overlap_refused : (spans : List ReadSpan) (i : ℕ) (x y : ReadSpan) → 0 < i → i < length spans → x ≡ get_or spans (i - 1) x → y ≡ get_or spans i y → (Precedes (as_span x) (as_span y) → ⊥)
    → AllAdjacentBelow (λ a b. IsListed (as_span a) (as_span b)) spans (length spans) → (floor newest : ℕ) → All (IsSpan floor newest) (map as_span spans) → Pairwise are_apart (map as_span spans) → ⊥
overlap_refused spans i x y some lt e f not_before listed floor newest are apart =
    let S : ReadSpan → ReadSpan → Type 0 = λ a b. are_apart (as_span a) (as_span b) ≡ true in
    let P : ReadSpan → Type 0 = λ s. IsSpan floor newest (as_span s) in
    not_before (listed_apart floor newest (as_span x) (as_span y)
    (before (λ a b. IsListed (as_span a) (as_span b)) spans i x y some lt e f listed)
    (subst P (sym f) (all_at (IsSpan floor newest) as_span spans are i y lt))
    (at_both S spans (i - 1) i x y (omega (arith, some, lt)) lt e f (pair_at as_span are_apart spans apart (i - 1) i x (omega (arith, some)) lt)))

-- ---- configurations

distinct_says : (floor : ℕ) (a b : ConfigAt) → are_distinct floor a b ≡ true → a.rev ≤ b.rev → (a.rev < b.rev) × (floor < b.rev)
distinct_says floor a b h le = by_same (a.rev == b.rev) refl (or_cases (nat_lt floor a.rev) (nat_lt floor b.rev))
  where
    by_same : (s : Bool) → (a.rev == b.rev) ≡ s → ((nat_lt floor a.rev || nat_lt floor b.rev) ≡ true → (nat_lt floor a.rev ≡ true) ⊎ (nat_lt floor b.rev ≡ true)) → (a.rev < b.rev) × (floor < b.rev)
    by_same true e cases = absurd (true≢false (sym (sym (ap (λ s. cond s false (nat_lt floor a.rev || nat_lt floor b.rev)) e) ∙ h)))
    by_same false e cases = (less, above (cases (sym (ap (λ s. cond s false (nat_lt floor a.rev || nat_lt floor b.rev)) e) ∙ h)))
      where
        by_less : (a.rev < b.rev) ⊎ (b.rev ≤ a.rev) → a.rev < b.rev
        by_less (inl l) = l
        by_less (inr g) = let same : a.rev ≡ b.rev = omega (arith, g, le) in absurd (true≢false (sym (eq-eqb a.rev b.rev same) ∙ e))

        less : a.rev < b.rev
        less = by_less (cases_lt a.rev b.rev)

        above : (nat_lt floor a.rev ≡ true) ⊎ (nat_lt floor b.rev ≡ true) → floor < b.rev
        above (inl t) = let l = ltb-true floor a.rev t in omega (arith, l, le)
        above (inr t) = ltb-true floor b.rev t

pub rev_refused : (floor : ℕ) (configs : List ReadConfig) (i : ℕ) (x y : ReadConfig) → 0 < i → i < length configs → x ≡ get_or configs (i - 1) x → y ≡ get_or configs i y → (x.rev < y.rev → floor < y.rev → ⊥)
    → AllAdjacentBelow (λ (a b : ReadConfig). a.rev ≤ b.rev) configs (length configs) → Pairwise (are_distinct floor) (map as_config configs) → ⊥
rev_refused floor configs i x y some lt e f not_after listed distinct =
    let S : ReadConfig → ReadConfig → Type 0 = λ a b. are_distinct floor (as_config a) (as_config b) ≡ true in
    let says = distinct_says floor (as_config x) (as_config y)
    (at_both S configs (i - 1) i x y (omega (arith, some, lt)) lt e f (pair_at as_config (are_distinct floor) configs distinct (i - 1) i x (omega (arith, some)) lt))
    (before (λ (a b : ReadConfig). a.rev ≤ b.rev) configs i x y some lt e f listed) in
    not_after says.0 says.1
