-- The events of a revision span by span are its events in the order of tuples, where that order is theirs.
use Rattle.std.proofs.Common.{◌≡◌, ℕ, ◌<◌, List, [], ◌∷◌, ◌++◌, refl, ap, sym, subst, ◌∙◌, arith}
use Rattle.std.specs.Prelude.{Bool, true, false, Option, Some, None, length, cond, not, ◌&&◌, ◌||◌, ◌==◌, filter, map}
use mathlib.Core.Bool.{true≢false}
use Rattle.std.proofs.lemmas.Bool.{eqb-true, eq-eqb, not-true}
use Rattle.std.specs.declared.cmp.Ordering.TheVariants.{Less}
use Rattle.std.specs.List.{list_any, AllByRecursion}
use Rattle.std.specs.List.Sorted.{IsStrictlySortedBy}
use Rattle.std.specs.Ordering.{is_eq}
use Rattle.std.specs.Cmp.{eq_by_cmp_equiv}
use Rattle.std.proofs.lemmas.Map.Views.{tells_apart}
use Rattle.names.specs.Order.{tuple_cmp, is_same_tuple}
use Rattle.names.specs.declared.tuple.Tuple.{Tuple}
use Rattle.names.specs.declared.commit.Event.{Event}
use Rattle.names.specs.declared.commit.EventKind.{EventKind}
use Rattle.names.specs.declared.commit.EventKind.TheVariants.{Put, Del}
use Rattle.names.specs.declared.commit.Commit.TheVariants as kinds
use Rattle.meaning.specs.Config.{Configured}
use Rattle.meaning.specs.TupleSet as set
use Rattle.meaning.proofs.TupleSets.{contains_from_list, same_tuples, items_from_list, exact_tuples, tuples_total}
use Rattle.store.specs.Written.{TupleSpan, is_moved, is_one, is_put_at, event_at, events_at, tuples_of}
use Rattle.store.specs.inside.Moves.{moves, tuples_in, IsCommit, goes_on, event_if, put_of, del_of}

pub same_is : (q t : Tuple) → is_same_tuple q t ≡ true → q ≡ t
same_is = tells_apart exact_tuples

pub same_turned : (q t : Tuple) → is_same_tuple q t ≡ is_same_tuple t q
same_turned = (eq_by_cmp_equiv tuples_total).symm

pub same_self : (t : Tuple) → is_same_tuple t t ≡ true
same_self = (eq_by_cmp_equiv tuples_total).refl

abbrev pub is_put : EventKind → Bool
is_put Put = true
is_put Del = false

-- the events put the tuple
abbrev pub puts : List Event → Tuple → Bool
puts es q = list_any (λ e. is_same_tuple q e.tuple && is_put e.kind) es

any_if : (p : Event → Bool) (b : Bool) (e : Event) (es : List Event) → list_any p (event_if b e ++ es) ≡ ((b && p e) || list_any p es)
any_if p true e es = refl
any_if p false e es = refl

tuple_if : (q : Tuple) (b : Bool) (e : Event) (es : List Event) → list_any (is_same_tuple q) (tuples_in (event_if b e ++ es)) ≡ ((b && is_same_tuple q e.tuple) || list_any (is_same_tuple q) (tuples_in es))
tuple_if q true e es = refl
tuple_if q false e es = refl

-- ---- which tuples
joined : (a s r g m : Bool) → (g ≡ true → s ≡ true → r ≡ true → m ≡ true) → ((a && s) || (((r && not g) && s) || m)) ≡ ((s && (a || r)) || m)
joined true true r g m h = refl
joined true false true true m h = refl
joined true false true false m h = refl
joined true false false g m h = refl
joined false true true true m h = h refl refl refl
joined false true true false m h = refl
joined false true false g m h = refl
joined false false true true m h = refl
joined false false true false m h = refl
joined false false false g m h = refl

and_left : (a b : Bool) → (a && b) ≡ true → a ≡ true
and_left true b h = refl
and_left false b h = h

and_right : (a b : Bool) → (a && b) ≡ true → b ≡ true
and_right true b h = h
and_right false b h = absurd (true≢false (sym h))

-- some span of the tuple begins or ends at the revision
abbrev pub has_moved : Tuple → ℕ → List TupleSpan → Bool
has_moved q rev spans = list_any (λ l. is_same_tuple q l.tuple && is_moved rev l) spans

moves_next : (q : Tuple) (rev : ℕ) (l : TupleSpan) (ls : List TupleSpan) → goes_on l ls ≡ true → is_same_tuple q l.tuple ≡ true → (l.removed == rev) ≡ true → has_moved q rev ls ≡ true
moves_next q rev l [] on same ends = absurd (true≢false (sym on))
moves_next q rev l (m ∷ ms) on same ends =
    let next : is_same_tuple q m.tuple ≡ true = ap (λ t. is_same_tuple t m.tuple) (same_is q l.tuple same) ∙ and_left (is_same_tuple l.tuple m.tuple) (m.added == l.removed) on in
    let begins : (m.added == rev) ≡ true = eq-eqb m.added rev (eqb-true m.added l.removed (and_right (is_same_tuple l.tuple m.tuple) (m.added == l.removed) on) ∙ eqb-true l.removed rev ends) in
    ap (λ b. (b && is_moved rev m) || has_moved q rev ms) next ∙ ap (λ b. (b || (m.removed == rev)) || has_moved q rev ms) begins

members : (q : Tuple) (rev : ℕ) (spans : List TupleSpan) → list_any (is_same_tuple q) (tuples_in (moves rev spans)) ≡ has_moved q rev spans
members q rev [] = refl
members q rev (l ∷ ls) =
    let s : Bool = is_same_tuple q l.tuple in
    let r : Bool = l.removed == rev in
    let a : Bool = l.added == rev in
    tuple_if q a (put_of l) (event_if (r && not (goes_on l ls)) (del_of l) ++ moves rev ls)
    ∙ ap (λ b. (a && s) || b) (tuple_if q (r && not (goes_on l ls)) (del_of l) (moves rev ls) ∙ ap (λ b. ((r && not (goes_on l ls)) && s) || b) (members q rev ls))
    ∙ joined a s r (goes_on l ls) (has_moved q rev ls) (moves_next q rev l ls)

filtered : (q : Tuple) (p : TupleSpan → Bool) (spans : List TupleSpan) → list_any (is_same_tuple q) (map (λ l. l.tuple) (filter p spans)) ≡ list_any (λ l. is_same_tuple q l.tuple && p l) spans
filtered q p [] = refl
filtered q p (l ∷ ls) = by_test (p l) (filtered q p ls)
  where
    both : (s : Bool) → s ≡ (s && true)
    both true = refl
    both false = refl

    none : (s : Bool) → false ≡ (s && false)
    none true = refl
    none false = refl

    by_test : (b : Bool) → list_any (is_same_tuple q) (map (λ l. l.tuple) (filter p ls)) ≡ list_any (λ l. is_same_tuple q l.tuple && p l) ls
        → list_any (is_same_tuple q) (map (λ l. l.tuple) (cond b (l ∷ filter p ls) (filter p ls))) ≡ ((is_same_tuple q l.tuple && b) || list_any (λ l. is_same_tuple q l.tuple && p l) ls)
    by_test true rest = ap (λ m. is_same_tuple q l.tuple || m) rest ∙ ap (λ s. s || list_any (λ l. is_same_tuple q l.tuple && p l) ls) (both (is_same_tuple q l.tuple))
    by_test false rest = rest ∙ ap (λ s. s || list_any (λ l. is_same_tuple q l.tuple && p l) ls) (none (is_same_tuple q l.tuple))

pub same_members : (rev : ℕ) (spans : List TupleSpan) → set.from_list (tuples_in (moves rev spans)) ≡ tuples_of (is_moved rev) spans
same_members rev spans = same_tuples (set.from_list (tuples_in (moves rev spans))) (tuples_of (is_moved rev) spans) (λ q.
    contains_from_list (tuples_in (moves rev spans)) q ∙ members q rev spans ∙ sym (contains_from_list (map (λ l. l.tuple) (filter (is_moved rev) spans)) q ∙ filtered q (is_moved rev) spans))

-- ---- which of them are puts
joined_puts : (a s d m : Bool) → ((a && (s && true)) || ((d && (s && false)) || m)) ≡ ((s && a) || m)
joined_puts true true d m = refl
joined_puts true false true m = refl
joined_puts true false false m = refl
joined_puts false true true m = refl
joined_puts false true false m = refl
joined_puts false false true m = refl
joined_puts false false false m = refl

puts_at : (q : Tuple) (rev : ℕ) (spans : List TupleSpan) → puts (moves rev spans) q ≡ is_put_at rev spans q
puts_at q rev [] = refl
puts_at q rev (l ∷ ls) =
    let p : Event → Bool = λ e. is_same_tuple q e.tuple && is_put e.kind in
    let s : Bool = is_same_tuple q l.tuple in
    let d : Bool = (l.removed == rev) && not (goes_on l ls) in
    let a : Bool = l.added == rev in
    any_if p a (put_of l) (event_if d (del_of l) ++ moves rev ls)
    ∙ ap (λ b. (a && (s && true)) || b) (any_if p d (del_of l) (moves rev ls) ∙ ap (λ b. (d && (s && false)) || b) (puts_at q rev ls))
    ∙ joined_puts a s d (is_put_at rev ls q)

-- ---- events on distinct tuples are what their tuples say
abbrev event_by : (Tuple → Bool) → Tuple → Event
event_by f t = record { tuple = t; kind = cond (f t) Put Del }

abbrev Agrees : (Tuple → Bool) → List Event → Type 0
Agrees f [] = Unit {0}
Agrees f (e ∷ es) = (f e.tuple ≡ is_put e.kind) × Agrees f es

kind_is : (k : EventKind) → cond (is_put k) Put Del ≡ k
kind_is Put = refl
kind_is Del = refl

said : (f : Tuple → Bool) (es : List Event) → Agrees f es → map (event_by f) (tuples_in es) ≡ es
said f [] h = refl
said f (e ∷ es) h =
    ap (λ b. (record { tuple = e.tuple; kind = cond b Put Del }) ∷ map (event_by f) (tuples_in es)) h.0
    ∙ ap (λ k. (record { tuple = e.tuple; kind = k }) ∷ map (event_by f) (tuples_in es)) (kind_is e.kind)
    ∙ ap (λ xs. e ∷ xs) (said f es h.1)

apart : (q t : Tuple) → tuple_cmp q t ≡ Less → is_same_tuple q t ≡ false
apart q t h = ap is_eq h

none_later : (q : Tuple) (es : List Event) → AllByRecursion (λ y. tuple_cmp q y ≡ Less) (tuples_in es) → puts es q ≡ false
none_later q [] h = refl
none_later q (e ∷ es) h = ap (λ b. (b && is_put e.kind) || puts es q) (apart q e.tuple h.0) ∙ none_later q es h.1

or_none : (a b : Bool) → b ≡ false → ((true && a) || b) ≡ a
or_none true b h = refl
or_none false b h = h

agrees_later : (e : Event) (all es : List Event) → AllByRecursion (λ y. tuple_cmp e.tuple y ≡ Less) (tuples_in es) → Agrees (puts all) es → Agrees (puts (e ∷ all)) es
agrees_later e all [] h k = tt
agrees_later e all (x ∷ es) h k = (
  ap (λ b. (b && is_put e.kind) || puts all x.tuple) (same_turned x.tuple e.tuple ∙ apart e.tuple x.tuple h.0) ∙ k.0,
  agrees_later e all es h.1 k.1,
)

agrees : (es : List Event) → IsStrictlySortedBy tuple_cmp (tuples_in es) → Agrees (puts es) es
unfolding IsStrictlySortedBy
agrees [] h = tt
agrees (e ∷ es) h = (
  ap (λ b. (b && is_put e.kind) || puts es e.tuple) (same_self e.tuple) ∙ or_none (is_put e.kind) (puts es e.tuple) (none_later e.tuple es h.0),
  agrees_later e es es h.0 (agrees es h.1),
)

mapped : (f g : Tuple → Event) (ts : List Tuple) → ((t : Tuple) → f t ≡ g t) → map f ts ≡ map g ts
mapped f g [] h = refl
mapped f g (t ∷ ts) h = ap (λ e. e ∷ map f ts) (h t) ∙ ap (λ es. g t ∷ es) (mapped f g ts h)

pub events_are : (rev : ℕ) (spans : List TupleSpan) → IsStrictlySortedBy tuple_cmp (tuples_in (moves rev spans)) → moves rev spans ≡ events_at rev spans
events_are rev spans sorted =
    let es : List Event = moves rev spans in
    sym (said (puts es) es (agrees es sorted))
    ∙ mapped (event_by (puts es)) (event_at rev spans) (tuples_in es) (λ t. ap (λ b. record { tuple = t; kind = cond b Put Del }) (puts_at t rev spans))
    ∙ ap (map (event_at rev spans)) (sym (items_from_list (tuples_in es) sorted) ∙ ap set.items (same_members rev spans))

-- ---- whether there are any
abbrev pub some_event : List Event → Bool
some_event [] = false
some_event (e ∷ es) = true

some_if : (b : Bool) (e : Event) (es : List Event) → some_event (event_if b e ++ es) ≡ (b || some_event es)
some_if true e es = refl
some_if false e es = refl

joined_some : (a r g m : Bool) → (g ≡ true → r ≡ true → m ≡ true) → (a || ((r && not g) || m)) ≡ ((a || r) || m)
joined_some true r g m h = refl
joined_some false true true m h = h refl refl
joined_some false true false m h = refl
joined_some false false g m h = refl

some_next : (rev : ℕ) (l : TupleSpan) (ls : List TupleSpan) → goes_on l ls ≡ true → (l.removed == rev) ≡ true → list_any (is_moved rev) ls ≡ true
some_next rev l [] on ends = absurd (true≢false (sym on))
some_next rev l (m ∷ ms) on ends =
    let begins : (m.added == rev) ≡ true = eq-eqb m.added rev (eqb-true m.added l.removed (and_right (is_same_tuple l.tuple m.tuple) (m.added == l.removed) on) ∙ eqb-true l.removed rev ends) in
    ap (λ b. (b || (m.removed == rev)) || list_any (is_moved rev) ms) begins

pub some_moved : (rev : ℕ) (spans : List TupleSpan) → some_event (moves rev spans) ≡ list_any (is_moved rev) spans
some_moved rev [] = refl
some_moved rev (l ∷ ls) =
    some_if (l.added == rev) (put_of l) (event_if ((l.removed == rev) && not (goes_on l ls)) (del_of l) ++ moves rev ls)
    ∙ ap (λ b. (l.added == rev) || b) (some_if ((l.removed == rev) && not (goes_on l ls)) (del_of l) (moves rev ls) ∙ ap (λ b. ((l.removed == rev) && not (goes_on l ls)) || b) (some_moved rev ls))
    ∙ joined_some (l.added == rev) (l.removed == rev) (goes_on l ls) (list_any (is_moved rev) ls) (some_next rev l ls)

-- ---- commits
none_some : (es : List Event) → length es ≡ 0 → some_event es ≡ false
none_some [] h = refl
none_some (e ∷ es) h = absurd (omega (arith, h))

some_some : (es : List Event) → 0 < length es → some_event es ≡ true
some_some [] h = absurd (omega (arith, h))
some_some (e ∷ es) h = refl

pub config_is : (config : Configured) (es : List Event) → length es ≡ 0 → (rev : ℕ) (spans : List TupleSpan) → es ≡ moves rev spans → IsCommit rev spans (Some config) (kinds.Config config)
config_is config es none rev spans e = record {
  is = refl;
  one = ap not (sym (some_moved rev spans) ∙ sym (ap some_event e) ∙ none_some es none);
}

pub tuples_are : (es : List Event) → 0 < length es → IsStrictlySortedBy tuple_cmp (tuples_in es) → (rev : ℕ) (spans : List TupleSpan) → es ≡ moves rev spans → IsCommit rev spans None (kinds.Tuples es)
tuples_are es some sorted rev spans e =
    let P : List Event → Type 0 = λ l. IsStrictlySortedBy tuple_cmp (tuples_in l) in
    record {
      is = ap (λ (l : List Event). kinds.Tuples l) (e ∙ events_are rev spans (subst P e sorted));
      one = sym (some_moved rev spans) ∙ sym (ap some_event e) ∙ some_some es some;
    }

len_none : (es : List Event) → some_event es ≡ false → length es ≡ 0
len_none [] h = refl
len_none (e ∷ es) h = absurd (true≢false h)

len_some : (es : List Event) → some_event es ≡ true → 0 < length es
len_some [] h = absurd (true≢false (sym h))
len_some (e ∷ es) h = omega arith

-- a revision that brings a configuration brings no events, and one that brings none brings some
pub config_alone : (rev : ℕ) (spans : List TupleSpan) (config : Configured) (es : List Event) → es ≡ moves rev spans → (o : Option Configured) → Some config ≡ o → is_one o (list_any (is_moved rev) spans) ≡ true → length es ≡ 0
config_alone rev spans config es e o is one =
    len_none es (ap some_event e ∙ some_moved rev spans ∙ not-true (list_any (is_moved rev) spans) (ap (λ o. is_one o (list_any (is_moved rev) spans)) is ∙ one))

pub events_come : (rev : ℕ) (spans : List TupleSpan) (es : List Event) → es ≡ moves rev spans → (o : Option Configured) → None ≡ o → is_one o (list_any (is_moved rev) spans) ≡ true → 0 < length es
events_come rev spans es e o is one = len_some es (ap some_event e ∙ some_moved rev spans ∙ ap (λ o. is_one o (list_any (is_moved rev) spans)) is ∙ one)
