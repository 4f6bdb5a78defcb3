-- What tables load can be opened.
use Rattle.std.proofs.Common.{◌≡◌, ℕ, ◌≤◌, Bool, true, List, [], ◌∷◌, refl, ap, arith, nat_le}
use Rattle.std.specs.Prelude.{◌&&◌, Contains}
use Rattle.std.specs.List.{AllByRecursion, list_all}
use Rattle.std.specs.List.Sorted.{IsStrictlySortedBy}
use Rattle.std.specs.Ordering.{is_lt}
use Rattle.std.specs.declared.cmp.Ordering.TheVariants.{Less}
use Rattle.std.proofs.lemmas.Bool.{and_from}
use Rattle.std.proofs.lemmas.Bool.Decides.{nat_tests}
use Rattle.names.specs.declared.limits.TheConstants.{MAX_REV, MAX_ROWS}
use Rattle.names.specs.Order.{tuple_cmp}
use Rattle.names.specs.declared.tuple.Tuple.{Tuple}
use Rattle.meaning.specs.TupleSet as set
use Rattle.meaning.specs.Snap.{Snap}
use Rattle.meaning.specs.Admits.{admits}
use Rattle.meaning.specs.History.{History, after_commit}
use Rattle.meaning.proofs.Lists.{contains_here, contains_there}
use Rattle.meaning.proofs.TupleSets.{contains_iff}
use Rattle.rows.specs.Ordered.{is_ordered}
use Rattle.rows.specs.Retained.{newest, spans_of, AreAdmitted}
use Rattle.rows.specs.Loads.{IsWithin, retained_of}
use Rattle.rows.specs.declared.loaded.Loaded.{Loaded}
use Rattle.rows.proofs.Admitting.{AllAdmitted, to_all}
use Rattle.publication.specs.World.{is_below, is_rising, is_limited, is_admitted, are_admitted, is_within}

below_of : (t : Tuple) (ts : List Tuple) → AllByRecursion (λ u. tuple_cmp t u ≡ Less) ts → is_below t ts ≡ true
below_of t [] h = refl
below_of t (u ∷ us) h = ap is_lt h.0

rising_of : (ts : List Tuple) → IsStrictlySortedBy tuple_cmp ts → is_rising ts ≡ true
unfolding IsStrictlySortedBy
rising_of [] h = refl
rising_of (t ∷ ts) h = and_from (is_below t ts) (is_rising ts) (below_of t ts h.0) (rising_of ts h.1)

at_most_of : (m n : ℕ) → m ≤ n → nat_le m n ≡ true
at_most_of m n h = grind (arith, nat_tests)

all_from : {A : Type 0} (p : A → Bool) (xs : List A) → ((x : A) → Contains xs x → p x ≡ true) → list_all p xs ≡ true
all_from p [] h = refl
all_from p (y ∷ ys) h = and_from (p y) (list_all p ys) (h y (contains_here y ys)) (all_from p ys (λ x c. h x (contains_there y x ys c)))

admitted_of : (s : Snap) → AreAdmitted s → is_admitted s ≡ true
admitted_of s h = all_from (admits s.config) (set.items s.tuples) (λ t c. h t ((contains_iff s.tuples t).1 c))

each_admitted : (s : Snap) (h : History) → AllAdmitted s h → are_admitted s h ≡ true
each_admitted s [] all = admitted_of s all
each_admitted s (c ∷ cs) all = and_from (is_admitted s) (are_admitted (after_commit s c) cs) (admitted_of s all.0) (each_admitted (after_commit s c) cs all.1)

pub within_of : (l : Loaded) → IsWithin l → is_within l ≡ true
within_of l within =
    let r = retained_of l in
    let ordered = list_all is_ordered l.commits in
    and_from (is_limited l) (ordered && are_admitted r.base l.commits)
    (and_from (is_rising l.tuples) _ (rising_of l.tuples within.ordered)
    (and_from (nat_le (newest r) MAX_REV) (nat_le (spans_of r) MAX_ROWS) (at_most_of (newest r) MAX_REV within.revs) (at_most_of (spans_of r) MAX_ROWS within.rows)))
    (and_from ordered (are_admitted r.base l.commits) within.each_ordered (each_admitted r.base l.commits (to_all r within.admitted)))
