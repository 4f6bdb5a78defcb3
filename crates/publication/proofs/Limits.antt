-- What was loaded can be opened where it is tested to be so.
use mathlib.Core.Bool.{true≢false}
use Rattle.std.proofs.Common.{◌≡◌, ℕ, zero, suc, ◌+◌, ◌-◌, ◌<◌, ◌≤◌, Bool, true, false, List, [], ◌∷◌, length, get_or, drop, refl, ap, sym, ◌∙◌, nat_le, inl, inr, arith}
use Rattle.std.specs.Prelude.{◌&&◌, ◌⊎◌, Contains}
use Rattle.std.specs.List.{AllByRecursion, list_all}
use Rattle.std.specs.List.Sorted.{IsStrictlySortedBy}
use Rattle.std.specs.Ordering.{is_lt}
use Rattle.std.specs.declared.cmp.Ordering.{Ordering}
use Rattle.std.specs.declared.cmp.Ordering.TheVariants.{Less, Equal, Greater}
use Rattle.names.specs.declared.limits.TheConstants.{MAX_REV, MAX_ROWS}
use Rattle.names.specs.Order.{tuple_cmp}
use Rattle.names.specs.declared.tuple.Tuple.{Tuple}
use Rattle.names.specs.declared.commit.Event.{Event}
use Rattle.meaning.specs.TupleSet as set
use Rattle.meaning.specs.Snap.{Snap}
use Rattle.meaning.specs.Admits.{admits}
use Rattle.meaning.specs.History.{History, after_commit, rows_of}
use Rattle.meaning.proofs.Lists.{contains_cases, contains_none}
use Rattle.meaning.proofs.TupleSets.{tuples_total, contains_iff, items_from_list, len_items}
use Rattle.rows.specs.Ordered.{is_in_order, is_ordered}
use Rattle.rows.specs.Retained.{newest, spans_of, AreAdmitted}
use Rattle.rows.specs.Loads.{IsWithin, retained_of}
use Rattle.rows.specs.declared.loaded.Loaded.{Loaded}
use Rattle.rows.proofs.Admitting.{AllAdmitted, of_all}
use Rattle.publication.specs.World.{is_below, is_rising, is_limited, is_admitted, are_admitted, is_within}
use Rattle.publication.proofs.Rising.{and_left, and_right, at_most}

is_less : (o : Ordering) → is_lt o ≡ true → o ≡ Less
is_less Less h = refl
is_less Equal h = absurd (true≢false (sym h))
is_less Greater h = absurd (true≢false (sym h))

through : (t u : Tuple) (us : List Tuple) → tuple_cmp t u ≡ Less → is_below u us ≡ true → is_below t us ≡ true
through t u [] under h = refl
through t u (v ∷ vs) under h = ap is_lt (tuples_total.trans t u v under (is_less (tuple_cmp u v) h))

pub rising_sorted : (ts : List Tuple) → is_rising ts ≡ true → IsStrictlySortedBy tuple_cmp ts
unfolding IsStrictlySortedBy
rising_sorted [] h = tt
rising_sorted (t ∷ ts) h = (below t ts (and_left (is_below t ts) (is_rising ts) h) (and_right (is_below t ts) (is_rising ts) h), rising_sorted ts (and_right (is_below t ts) (is_rising ts) h))
  where
    below : (t : Tuple) (ts : List Tuple) → is_below t ts ≡ true → is_rising ts ≡ true → AllByRecursion (λ u. tuple_cmp t u ≡ Less) ts
    below t [] h rising = tt
    below t (u ∷ us) h rising =
        let under = is_less (tuple_cmp t u) h in
        (under, below t us (through t u us under (and_left (is_below u us) (is_rising us) rising)) (and_right (is_below u us) (is_rising us) rising))

-- each of what the test is true of
all_of : {A : Type 0} (p : A → Bool) (xs : List A) → list_all p xs ≡ true → (x : A) → Contains xs x → p x ≡ true
all_of p [] h x c = absurd (contains_none x c)
all_of p (y ∷ ys) h x c = by_place (all_of p ys (and_right (p y) (list_all p ys) h) x) (contains_cases y x ys c)
  where
    by_place : (Contains ys x → p x ≡ true) → (y ≡ x) ⊎ Contains ys x → p x ≡ true
    by_place later (inl e) = ap p (sym e) ∙ and_left (p y) (list_all p ys) h
    by_place later (inr d) = later d

admitted_is : (s : Snap) → is_admitted s ≡ true → AreAdmitted s
admitted_is s h t there = all_of (admits s.config) (set.items s.tuples) h t ((contains_iff s.tuples t).0 there)

all_admitted : (s : Snap) (h : History) → are_admitted s h ≡ true → AllAdmitted s h
all_admitted s [] h = admitted_is s h
all_admitted s (c ∷ cs) h =
    let rest = are_admitted (after_commit s c) cs in
    (admitted_is s (and_left (is_admitted s) rest h), all_admitted (after_commit s c) cs (and_right (is_admitted s) rest h))

-- an event and those after it are in order where it is below the next, and those are
next_in_order : (k : ℕ) (es : List Event) (e f : Event) → suc k < length es → e ≡ get_or es k e → f ≡ get_or es (suc k) f → is_in_order (drop k es) ≡ (is_lt (tuple_cmp e.tuple f.tuple) && is_in_order (drop (suc k) es))
next_in_order k [] e f within first second = absurd (omega (arith, within))
next_in_order zero (x ∷ []) e f within first second = absurd (omega (arith, within))
next_in_order zero (x ∷ y ∷ es) e f within first second = λ i. is_lt (tuple_cmp (sym first i).tuple (sym second i).tuple) && is_in_order (y ∷ es)
next_in_order (suc k) (x ∷ es) e f within first second = next_in_order k es e f (omega (arith, within)) first second

-- the same of what the code tells
pub one_event_on : (i : ℕ) (es : List Event) (e f : Event) (t u : Tuple) (b : Bool) → 0 < i → i < length es → e ≡ get_or es (i - 1) e → f ≡ get_or es i f → t ≡ e.tuple → u ≡ f.tuple → b ≡ is_lt (tuple_cmp t u)
    → is_in_order (drop (i - 1) es) ≡ (b && is_in_order (drop i es))
one_event_on zero es e f t u b above within first second last next is = absurd (omega (arith, above))
one_event_on (suc k) es e f t u b above within first second last next is =
    let same : suc k - 1 ≡ k = omega arith in
    ap (λ j. is_in_order (drop j es)) same
    ∙ next_in_order k es e f within (first ∙ ap (λ j. get_or es j e) same) second
    ∙ sym (λ j. (is ∙ λ k. is_lt (tuple_cmp (last k) (next k))) j && is_in_order (drop (suc k) es))

-- the last event is below none
pub last_in_order : (k : ℕ) (es : List Event) → length es ≤ suc k → is_in_order (drop k es) ≡ true
last_in_order zero [] h = refl
last_in_order (suc k) [] h = refl
last_in_order zero (e ∷ []) h = refl
last_in_order zero (e ∷ f ∷ es) h = absurd (omega (arith, h))
last_in_order (suc k) (e ∷ es) h = last_in_order k es (omega (arith, h))

pub within_is : (l : Loaded) → is_within l ≡ true → IsWithin l
within_is l passed =
    let ordered = list_all is_ordered l.commits in
    let admitted = are_admitted (retained_of l).base l.commits in
    let h = and_left (is_limited l) (ordered && admitted) passed in
    let beside = and_right (is_limited l) (ordered && admitted) passed in
    let rest = and_right (is_rising l.tuples) (nat_le (newest (retained_of l)) MAX_REV && nat_le (spans_of (retained_of l)) MAX_ROWS) h in
    record {
      ordered = rising_sorted l.tuples (and_left (is_rising l.tuples) _ h);
      revs = at_most (newest (retained_of l)) MAX_REV (and_left (nat_le (newest (retained_of l)) MAX_REV) _ rest);
      rows = at_most (spans_of (retained_of l)) MAX_ROWS (and_right (nat_le (newest (retained_of l)) MAX_REV) _ rest);
      admitted = of_all (retained_of l) (all_admitted (retained_of l).base l.commits (and_right ordered admitted beside));
      each_ordered = and_left ordered admitted beside;
    }

pub rising_len : (ts : List Tuple) → is_rising ts ≡ true → set.len (set.from_list ts) ≡ length ts
rising_len ts h = len_items (set.from_list ts) ∙ ap length (items_from_list ts (rising_sorted ts h))

-- where the order and the revisions are right, the rows decide
pub rows_decide : (l : Loaded) (ts : List Tuple) (h : History) (b : Bool) → ts ≡ l.tuples → h ≡ l.commits → is_rising ts ≡ true → nat_le (l.floor + length h) MAX_REV ≡ true → b ≡ nat_le (length ts + rows_of h) MAX_ROWS → b ≡ is_limited l
rows_decide l ts h b tuples commits rising revs rows =
    let in_order : is_rising l.tuples ≡ true = ap is_rising (sym tuples) ∙ rising in
    let few : nat_le (newest (retained_of l)) MAX_REV ≡ true = ap (λ (g : History). nat_le (l.floor + length g) MAX_REV) (sym commits) ∙ revs in
    let long : length ts ≡ set.len (set.from_list l.tuples) = ap (λ (us : List Tuple). length us) tuples ∙ sym (rising_len l.tuples in_order) in
    rows
    ∙ ap (λ (n : ℕ). nat_le (n + rows_of h) MAX_ROWS) long
    ∙ ap (λ (g : History). nat_le (set.len (set.from_list l.tuples) + rows_of g) MAX_ROWS) commits
    ∙ last_of (is_rising l.tuples) (nat_le (newest (retained_of l)) MAX_REV) (nat_le (spans_of (retained_of l)) MAX_ROWS) in_order few
  where
    last_of : (a b c : Bool) → a ≡ true → b ≡ true → c ≡ (a && (b && c))
    last_of true true c p q = refl
    last_of true false c p q = absurd (true≢false (sym q))
    last_of false b c p q = absurd (true≢false (sym p))
