-- Spans that each precede the next are apart, and configurations that ascend are distinct.
use Rattle.std.proofs.Common.{◌≡◌, ℕ, ◌+◌, ◌<◌, ◌≤◌, ◌⊎◌, inl, inr, List, [], ◌∷◌, length, get_or, suc, refl, ap, sym, subst, ◌∙◌, arith}
use Rattle.std.specs.Prelude.{Bool, true, false, cond, ◌&&◌, ◌||◌, ◌==◌, nat_lt, nat_le, map, All}
use Rattle.std.specs.declared.cmp.Ordering.TheVariants.{Less}
use Rattle.std.specs.List.{AllAdjacentBelow}
use Rattle.std.specs.Ordering.{is_eq}
use Rattle.std.proofs.lemmas.Bool.Decides.{nat_tests}
use Rattle.std.proofs.lemmas.List.Elements.{All-nil, All-cons, All-map}
use Rattle.names.specs.Order.{tuple_cmp, is_same_tuple}
use Rattle.names.specs.declared.tuple.Tuple.{Tuple}
use Rattle.meaning.proofs.TupleSets.{tuples_total}
use Rattle.store.specs.Written.{TupleSpan, ConfigAt, IsSpan, is_before, are_apart, are_distinct, Pairwise}
use Rattle.store.specs.inside.Following.{Precedes, Ascends}

-- each is related to each that comes after it
abbrev pub Ordered : {A : Type 0} → (A → A → Type 0) → List A → Type 0
Ordered R [] = Unit {0}
Ordered R (x ∷ xs) = All (R x) xs × Ordered R xs

pub ordered : {A : Type 0} (R : A → A → Type 0) → ((x y z : A) → R x y → R y z → R x z) → (xs : List A) → AllAdjacentBelow R xs (length xs) → Ordered R xs
ordered R trans [] adj = tt
ordered R trans (x ∷ []) adj = (All-nil (R x), tt)
ordered {A} R trans (x ∷ y ∷ ys) adj =
    let rest : Ordered R (y ∷ ys) = ordered R trans (y ∷ ys) (λ k d lt. let P : ℕ → Type 0 = λ i. R (get_or (y ∷ ys) k d) (get_or (x ∷ y ∷ ys) i d) in let e : suc k + 1 ≡ suc (k + 1) = omega arith in subst P e (adj (suc k) d (omega (arith, lt)))) in
    let first : R x y = let P : ℕ → Type 0 = λ i. R x (get_or (x ∷ y ∷ ys) i x) in let e : 0 + 1 ≡ suc 0 = omega arith in subst P e (adj 0 x (omega arith)) in
    (All-cons (R x) y ys first (λ k z lt. trans x y _ first (rest.0 k z lt)), rest)

pairwise : {A B : Type 0} (f : A → B) (R : A → A → Type 0) (test : B → B → Bool) → ((x y : A) → R x y → test (f x) (f y) ≡ true) → (xs : List A) → Ordered R xs → Pairwise test (map f xs)
pairwise f R test passes [] h = tt
pairwise {A} {B} f R test passes (x ∷ xs) h = (All-map (λ y. test (f x) y ≡ true) f xs (λ k y lt. passes x _ (h.0 k y lt)), pairwise f R test passes xs h.1)

-- spans
abbrev Ends : TupleSpan → Type 0
Ends b = (b.removed ≡ 0) ⊎ (b.added < b.removed)

abbrev PrecedesEnding : TupleSpan → TupleSpan → Type 0
PrecedesEnding a b = Precedes a b × Ends b

past : (a b c d e : ℕ) → a ≤ b → (c ≡ 0) ⊎ (b < c) → 0 < c → c ≤ e → a ≤ e
past a b c d e p q r s = ⊎_elim (λ (z : c ≡ 0). omega (arith, z, r)) (λ (l : b < c). omega (arith, p, l, s)) q
  where
    ⊎_elim : {A B C : Type 0} → (A → C) → (B → C) → A ⊎ B → C
    ⊎_elim f g (inl a) = f a
    ⊎_elim f g (inr b) = g b

follows : (a b c : TupleSpan) → PrecedesEnding a b → PrecedesEnding b c → PrecedesEnding a c
follows a b c p q = (joined p.0 q.0, q.1)
  where
    joined : Precedes a b → Precedes b c → Precedes a c
    joined (inl l) (inl m) = inl (tuples_total.trans a.tuple b.tuple c.tuple l m)
    joined (inl l) (inr m) = inl (let P : Tuple → Type 0 = λ t. tuple_cmp a.tuple t ≡ Less in subst P m.0 l)
    joined (inr l) (inl m) = inl (let P : Tuple → Type 0 = λ t. tuple_cmp t c.tuple ≡ Less in subst P (sym l.0) m)
    joined (inr l) (inr m) = inr (l.0 ∙ m.0, l.1, past a.removed b.added b.removed 0 c.added l.2 p.1 m.1 m.2)

before : (a b : TupleSpan) → 0 < a.removed → a.removed ≤ b.added → is_before a b ≡ true
before a b h k = both (nat_lt 0 a.removed) (nat_le a.removed b.added) (grind (arith, nat_tests)) (grind (arith, nat_tests))
  where
    both : (x y : Bool) → x ≡ true → y ≡ true → (x && y) ≡ true
    both x y p q = ap (λ b. b && y) p ∙ q

apart_one : (a b : TupleSpan) → Precedes a b → are_apart a b ≡ true
apart_one a b (inl l) = ap (λ o. cond (is_eq o) (is_before a b || is_before b a) true) l
apart_one a b (inr e) = by_same (is_same_tuple a.tuple b.tuple)
  where
    by_same : (s : Bool) → cond s (is_before a b || is_before b a) true ≡ true
    by_same true = ap (λ x. x || is_before b a) (before a b e.1 e.2)
    by_same false = refl

in_order : {A : Type 0} (f : A → TupleSpan) (floor newest : ℕ) (xs : List A) → AllAdjacentBelow (λ a b. Precedes (f a) (f b)) xs (length xs) → All (λ s. IsSpan floor newest (f s)) xs
    → Ordered (λ a b. PrecedesEnding (f a) (f b)) xs
in_order {A} f floor newest xs adj all =
    ordered (λ a b. PrecedesEnding (f a) (f b)) (λ x y z. follows (f x) (f y) (f z)) xs (λ k d lt. (adj k d lt, ending (f (get_or xs (k + 1) d)) (all (k + 1) d lt).ends))
  where
    ending : (b : TupleSpan) → (b.removed ≡ 0) ⊎ ((b.added < b.removed) × (floor < b.removed) × (b.removed ≤ newest)) → Ends b
    ending b (inl z) = inl z
    ending b (inr e) = inr e.0

pub apart : {A : Type 0} (f : A → TupleSpan) (floor newest : ℕ) (xs : List A) → AllAdjacentBelow (λ a b. Precedes (f a) (f b)) xs (length xs) → All (λ s. IsSpan floor newest (f s)) xs → Pairwise are_apart (map f xs)
apart {A} f floor newest xs adj all =
    let R : A → A → Type 0 = λ a b. PrecedesEnding (f a) (f b) in
    pairwise f R are_apart (λ x y h. apart_one (f x) (f y) h.0) xs (in_order f floor newest xs adj all)

-- each precedes each that comes after it
abbrev pub InTurn : List TupleSpan → Type 0
InTurn [] = Unit {0}
InTurn (l ∷ ls) = All (Precedes l) ls × InTurn ls

turned : {A : Type 0} (f : A → TupleSpan) (xs : List A) → Ordered (λ a b. PrecedesEnding (f a) (f b)) xs → InTurn (map f xs)
turned f [] h = tt
turned f (x ∷ xs) h = (All-map (Precedes (f x)) f xs (λ k y lt. (h.0 k y lt).0), turned f xs h.1)

pub in_turn : {A : Type 0} (f : A → TupleSpan) (floor newest : ℕ) (xs : List A) → AllAdjacentBelow (λ a b. Precedes (f a) (f b)) xs (length xs) → All (λ s. IsSpan floor newest (f s)) xs → InTurn (map f xs)
in_turn f floor newest xs adj all = turned f xs (in_order f floor newest xs adj all)

-- configurations
distinct_one : (floor : ℕ) (a b : ConfigAt) → Ascends floor a b → are_distinct floor a b ≡ true
distinct_one floor a b h = by_tests (a.rev == b.rev) (nat_lt floor a.rev) (nat_lt floor b.rev) (let l = h.0 in grind (arith, nat_tests)) (let l = h.1 in grind (arith, nat_tests))
  where
    by_tests : (x y z : Bool) → x ≡ false → z ≡ true → cond x false (y || z) ≡ true
    by_tests x true z p q = ap (λ b. cond b false true) p
    by_tests x false z p q = ap (λ b. cond b false z) p ∙ q

pub distinct : {A : Type 0} (f : A → ConfigAt) (floor : ℕ) (xs : List A) → AllAdjacentBelow (λ a b. Ascends floor (f a) (f b)) xs (length xs) → Pairwise (are_distinct floor) (map f xs)
distinct {A} f floor xs adj =
    let R : A → A → Type 0 = λ a b. Ascends floor (f a) (f b) in
    pairwise f R (are_distinct floor) (λ x y h. distinct_one floor (f x) (f y) h) xs (ordered R (λ x y z p q. (ascends (f x).rev (f y).rev (f z).rev p.0 q.0, q.1)) xs adj)
  where
    ascends : (a b c : ℕ) → a < b → b < c → a < c
    ascends a b c p q = omega (arith, p, q)
