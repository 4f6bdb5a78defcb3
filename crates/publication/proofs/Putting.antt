-- Putting each tuple of a list.
use Rattle.std.proofs.Common.{◌≡◌, ℕ, ◌+◌, ◌<◌, length, drop, get_or, add-one, drop-cons, Bool, true, false, List, [], ◌∷◌, refl, ap, sym, ◌∙◌, ◌||◌}
use Rattle.std.specs.List.{list_any}
use Rattle.std.specs.Ordering.{eq_by_cmp}
use Rattle.names.specs.Order.{tuple_cmp}
use Rattle.names.specs.declared.tuple.Tuple.{Tuple}
use Rattle.meaning.specs.TupleSet as set
use Rattle.meaning.specs.TupleSet.{Tuples}
use Rattle.meaning.proofs.TupleSets.{contains_insert, contains_empty, contains_from_list, same_tuples}

-- the set, with each tuple of the list
abbrev pub put_all : Tuples → List Tuple → Tuples
put_all tuples [] = tuples
put_all tuples (t ∷ ts) = put_all (set.insert tuples t) ts

turn : (a b c : Bool) → (a || (b || c)) ≡ ((b || a) || c)
turn true true c = refl
turn true false c = refl
turn false b c = by b
  where
    by : (b : Bool) → (b || c) ≡ ((b || false) || c)
    by true = refl
    by false = refl

contains_all : (s : Tuples) (ts : List Tuple) (q : Tuple) → set.contains (put_all s ts) q ≡ (list_any (eq_by_cmp tuple_cmp q) ts || set.contains s q)
contains_all s [] q = refl
contains_all s (t ∷ ts) q =
    contains_all (set.insert s t) ts q
    ∙ ap (λ b. list_any (eq_by_cmp tuple_cmp q) ts || b) (contains_insert s t q)
    ∙ turn (list_any (eq_by_cmp tuple_cmp q) ts) (eq_by_cmp tuple_cmp q t) (set.contains s q)

right_none : (a b : Bool) → b ≡ false → (a || b) ≡ a
right_none true b h = refl
right_none false b h = h

pub put_from_empty : (ts : List Tuple) → put_all set.empty ts ≡ set.from_list ts
put_from_empty ts = same_tuples (put_all set.empty ts) (set.from_list ts) (λ q.
    contains_all set.empty ts q
    ∙ right_none (list_any (eq_by_cmp tuple_cmp q) ts) _ (contains_empty q)
    ∙ sym (contains_from_list ts q))

-- one tuple more is put
pub put_next : (s : Tuples) (ts : List Tuple) (i : ℕ) (t : Tuple) → i < length ts → t ≡ get_or ts i t → put_all (set.insert s t) (drop (i + 1) ts) ≡ put_all s (drop i ts)
put_next s ts i t below is = rw (drop-cons ts i t) (ap (λ (x : Tuple). put_all (set.insert s x) (drop (i + 1) ts)) is ∙ rw add-one refl)
