-- Events are refused exactly where no accepted write gives them.
use Rattle.std.proofs.Common.{is_some, ◌↔◌, get_or, ◌≡◌, ℕ, ◌+◌, ◌||◌, Bool, true, false, not, ◌&&◌, List, [], ◌∷◌, map, refl, ap, sym, ◌∙◌, subst, arith, Option, Some, None, nat_lt, nat_le, cond, zero, suc}
use mathlib.Core.Bool.{true≢false}
use Rattle.std.specs.List.{list_any, count_by, sum_by, IsDistinct, AllByRecursion}
use Rattle.std.specs.List.Sorted.{IsPermutation, IsSorted}
use Rattle.std.specs.Ordering.{is_lt, is_eq, ordering_reverse}
use Rattle.std.specs.declared.cmp.Ordering.{Ordering}
use Rattle.std.specs.declared.cmp.Ordering.TheVariants.{Less, Equal, Greater}
use Rattle.std.specs.Cmp.{eq_by_cmp_equiv}
use Rattle.std.proofs.lemmas.List.Sums.{sum_by-cons}
use Rattle.std.proofs.lemmas.List.{length-map}
use Rattle.std.proofs.lemmas.List.Sorted.{IsPermutation-refl, IsPermutation-map, list_any-IsPermutation, sum_by-IsPermutation, length_permutation}
use Rattle.std.proofs.lemmas.Map.Keys.{IsDistinct-IsPermutation}
use Rattle.names.specs.declared.limits.TheConstants.{MAX_OPS, MAX_REV, MAX_ROWS, MAX_TUPLES}
use Rattle.names.specs.Order.{is_same_tuple, tuple_cmp}
use Rattle.names.specs.declared.tuple.Tuple.{Tuple}
use Rattle.names.specs.declared.write.Op.{Op}
use Rattle.names.specs.declared.write.OpKind.{OpKind}
use Rattle.names.specs.declared.write.OpKind.TheVariants.{Insert, Touch, Delete}
use Rattle.names.specs.declared.commit.Event.{Event}
use Rattle.names.specs.declared.commit.EventKind.{EventKind}
use Rattle.names.specs.declared.commit.EventKind.TheVariants.{Put, Del}
use Rattle.names.specs.declared.commit.Commit.TheVariants.{Tuples}
use Rattle.names.specs.declared.refusal.Refusal.{Refusal}
use Rattle.names.specs.declared.refusal.Refusal.TheVariants.{Malformed, UnknownRelation, TypeRefused, TwiceInOneWrite, AlreadyThere, NotThere, Full}
use Rattle.meaning.specs.Config.{rel_of}
use Rattle.meaning.specs.Admits.{has_relation, admits}
use Rattle.meaning.specs.TupleSet as set
use Rattle.meaning.specs.TupleSet.{Tuples as Held}
use Rattle.meaning.specs.History.{replay, puts_in}
use Rattle.meaning.specs.Verdict.{Newest, or_else, refused_if, event_of, kind_of, is_delete, is_insert, is_full, is_in_range, is_unknown, is_untyped, is_twice, at_place, first_from, inserts_again, deletes_nothing, write_cause}
use Rattle.meaning.proofs.TupleSets.{tuples_total}
use Rattle.rows.specs.Judging.{puts_tuple, adds_tuple, takes_tuple}
use Rattle.rows.specs.Ordered.{is_in_order}
use Rattle.rows.specs.Follows.{AreEventsOf, by_tuple, commit_cause, touch_of, touch_kind, IsWritten}
use Rattle.rows.proofs.Admission.{later_none, first_none, not_refused, left_false, right_false, touches_give}
use Rattle.rows.proofs.Fullness.{tuples_left, rows_made}

abbrev tuples_of : List Event → List Tuple
tuples_of events = map (λ e. e.tuple) events

and_left : (a b : Bool) → (a && b) ≡ true → a ≡ true
and_left true b h = refl
and_left false b h = absurd (true≢false (sym h))

and_right : (a b : Bool) → (a && b) ≡ true → b ≡ true
and_right true b h = h
and_right false b h = absurd (true≢false (sym h))

-- order
not_above : (o : Ordering) → is_lt o ≡ true → is_lt (ordering_reverse o) ≡ false
not_above Less h = refl
not_above Equal h = absurd (true≢false (sym h))
not_above Greater h = absurd (true≢false (sym h))

turned : (t u : Tuple) → tuple_cmp t u ≡ ordering_reverse (tuple_cmp u t)
turned t u = tuples_total.antisymm t u

pub in_order_sorted : (events : List Event) → is_in_order events ≡ true → IsSorted by_tuple events
in_order_sorted [] h k d low high = absurd (omega (arith, high))
in_order_sorted (e ∷ []) h k d low high = absurd (omega (arith, high))
in_order_sorted (e ∷ f ∷ es) h zero d low high = ap is_lt (turned f.tuple e.tuple) ∙ not_above (tuple_cmp e.tuple f.tuple) (and_left (is_lt (tuple_cmp e.tuple f.tuple)) _ h)
in_order_sorted (e ∷ f ∷ es) h (suc k) d low high =
    let next : suc k + 1 ≡ suc (k + 1) = omega arith in
    ap (λ (m : ℕ). is_lt (by_tuple (get_or (e ∷ f ∷ es) m d) (get_or (f ∷ es) k d))) next ∙ in_order_sorted (f ∷ es) (and_right (is_lt (tuple_cmp e.tuple f.tuple)) _ h) k d (omega arith) (omega (arith, high))

above_or_same : (o : Ordering) → is_lt (ordering_reverse o) ≡ false → (o ≡ Equal → ⊥) → is_lt o ≡ true
above_or_same Less h other = refl
above_or_same Equal h other = absurd (other refl)
above_or_same Greater h other = absurd (true≢false h)

same_if_equal : (t u : Tuple) → tuple_cmp t u ≡ Equal → is_same_tuple t u ≡ true
same_if_equal t u h = ap is_eq h

sorted_in_order : (events : List Event) → IsSorted by_tuple events → IsDistinct is_same_tuple (tuples_of events) → is_in_order events ≡ true
unfolding IsDistinct
sorted_in_order [] sorted once = refl
sorted_in_order (e ∷ []) sorted once = refl
sorted_in_order (e ∷ f ∷ es) sorted once =
    let below : is_lt (tuple_cmp e.tuple f.tuple) ≡ true =
    above_or_same (tuple_cmp e.tuple f.tuple) (ap is_lt (sym (turned f.tuple e.tuple)) ∙ sorted 0 e (omega arith) (omega arith))
    (λ equal. true≢false (sym (same_if_equal e.tuple f.tuple equal) ∙ once.0.0)) in
    ap (λ (b : Bool). b && is_in_order (f ∷ es)) below
    ∙ sorted_in_order (f ∷ es) (λ k d low high.
    let next : suc (k + 1) ≡ suc k + 1 = omega arith in
    ap (λ (m : ℕ). is_lt (by_tuple (get_or (e ∷ f ∷ es) m d) (get_or (f ∷ es) k d))) next ∙ sorted (suc k) d (omega arith) (omega (arith, high))) once.1

-- what touches and the operations have in common
any_touched : (p : Op → Bool) (q : Event → Bool) → ((e : Event) → p (touch_of e) ≡ q e) → (events : List Event) → list_any p (map touch_of events) ≡ list_any q events
any_touched p q same [] = refl
any_touched p q same (e ∷ es) = λ i. same e i || any_touched p q same es i

any_given : (p : Op → Bool) (q : Event → Bool) → ((o : Op) → q (event_of o) ≡ p o) → (ops : List Op) → list_any q (map event_of ops) ≡ list_any p ops
any_given p q same [] = refl
any_given p q same (o ∷ os) = λ i. same o i || any_given p q same os i

sum_touched : (f : Op → ℕ) (g : Event → ℕ) → ((e : Event) → f (touch_of e) ≡ g e) → (events : List Event) → sum_by f (map touch_of events) ≡ sum_by g events
sum_touched f g same [] = refl
sum_touched f g same (e ∷ es) = sum_by-cons f (touch_of e) (map touch_of es) ∙ (λ i. same e i + sum_touched f g same es i) ∙ sym (sum_by-cons g e es)

sum_given : (f : Op → ℕ) (g : Event → ℕ) → ((o : Op) → g (event_of o) ≡ f o) → (ops : List Op) → sum_by g (map event_of ops) ≡ sum_by f ops
sum_given f g same [] = refl
sum_given f g same (o ∷ os) = sum_by-cons g (event_of o) (map event_of os) ∙ (λ i. same o i + sum_given f g same os i) ∙ sym (sum_by-cons f o os)

-- an operation that gives the same event deletes or puts alike
deletes_alike : (k : OpKind) → is_delete (touch_kind (kind_of k)) ≡ is_delete k
deletes_alike Insert = refl
deletes_alike Touch = refl
deletes_alike Delete = refl

never_inserts : (k : EventKind) → is_insert (touch_kind k) ≡ false
never_inserts Put = refl
never_inserts Del = refl

some_none : (m : ℕ) → Some m ≡ None → ⊥
some_none m e = true≢false (ap is_some e)

none_any : {A : Type 0} (p : A → Bool) (n : ℕ) (xs : List A) → first_from p n xs ≡ None → list_any p xs ≡ false
none_any p n [] h = refl
none_any p n (x ∷ xs) h = by_test (p x) refl (none_any p (n + 1) xs)
  where
    by_test : (b : Bool) → p x ≡ b → (first_from p (n + 1) xs ≡ None → list_any p xs ≡ false) → (p x || list_any p xs) ≡ false
    by_test true is rest = absurd (some_none n (sym (ap (λ (b : Bool). cond b (Some n) (first_from p (n + 1) xs)) is) ∙ h))
    by_test false is rest = ap (λ (b : Bool). b || list_any p xs) is ∙ rest (sym (ap (λ (b : Bool). cond b (Some n) (first_from p (n + 1) xs)) is) ∙ h)

any_none : {A : Type 0} (p : A → Bool) (n : ℕ) (xs : List A) → list_any p xs ≡ false → first_from p n xs ≡ None
any_none p n [] h = refl
any_none p n (x ∷ xs) h = ap (λ (b : Bool). cond b (Some n) (first_from p (n + 1) xs)) (left_false (p x) _ h) ∙ any_none p (n + 1) xs (right_false (p x) _ h)

placed_none : (why : ℕ → Refusal) (o : Option ℕ) → at_place why o ≡ None → o ≡ None
placed_none why None h = refl
placed_none why (Some n) h = absurd (true≢false (ap is_some h))

none_inserted : (tuples : Held) (events : List Event) → list_any (inserts_again tuples) (map touch_of events) ≡ false
none_inserted tuples [] = refl
none_inserted tuples (e ∷ es) = λ i. (never_inserts e.kind i && set.contains tuples e.tuple) || none_inserted tuples es i

unlike_any : (t : Tuple) (events : List Event) → AllByRecursion (λ u. is_same_tuple t u ≡ false) (tuples_of events) → list_any (λ p. is_same_tuple t p.tuple) (map touch_of events) ≡ false
unlike_any t [] h = refl
unlike_any t (e ∷ es) h = λ i. h.0 i || unlike_any t es h.1 i

once_touched : (events : List Event) → IsDistinct is_same_tuple (tuples_of events) → is_twice (map touch_of events) ≡ false
unfolding IsDistinct
once_touched [] h = refl
once_touched (e ∷ es) h = λ i. unlike_any e.tuple es h.0 i || once_touched es h.1 i

unlike_given : (t : Tuple) (ops : List Op) → list_any (λ o. is_same_tuple t o.tuple) ops ≡ false → AllByRecursion (λ u. is_same_tuple t u ≡ false) (tuples_of (map event_of ops))
unlike_given t [] h = tt
unlike_given t (o ∷ os) h = (left_false (is_same_tuple t o.tuple) _ h, unlike_given t os (right_false (is_same_tuple t o.tuple) _ h))

once_given : (ops : List Op) → is_twice ops ≡ false → IsDistinct is_same_tuple (tuples_of (map event_of ops))
unfolding IsDistinct
once_given [] h = tt
once_given (o ∷ os) h =
    let here = list_any (λ p. is_same_tuple o.tuple p.tuple) os in
    (unlike_given o.tuple os (left_false here _ h), once_given os (right_false here _ h))

-- what an accepted write shows of each cause
record Passed (n : Newest) (ops : List Op) : Type 0 where
  range : not (is_in_range ops) ≡ false
  known : list_any (is_unknown n.held.config) ops ≡ false
  typed : list_any (is_untyped n.held.config) ops ≡ false
  once : is_twice ops ≡ false
  new : list_any (inserts_again n.held.tuples) ops ≡ false
  there : list_any (deletes_nothing n.held.tuples) ops ≡ false
  room : is_full n (map event_of ops) ≡ false

passed : (n : Newest) (ops : List Op) → write_cause n ops ≡ None → Passed n ops
passed n ops h =
    let a = later_none (refused_if Malformed (not (is_in_range ops))) _ h in
    let b = later_none (refused_if UnknownRelation (list_any (is_unknown n.held.config) ops)) _ a in
    let c = later_none (refused_if TypeRefused (list_any (is_untyped n.held.config) ops)) _ b in
    let d = later_none (refused_if TwiceInOneWrite (is_twice ops)) _ c in
    let e = later_none (at_place (λ i. AlreadyThere i) (first_from (inserts_again n.held.tuples) 0 ops)) _ d in
    let f = later_none (at_place (λ i. NotThere i) (first_from (deletes_nothing n.held.tuples) 0 ops)) _ e in
    record {
      range = not_refused Malformed (not (is_in_range ops)) (first_none _ _ h);
      known = not_refused UnknownRelation (list_any (is_unknown n.held.config) ops) (first_none _ _ a);
      typed = not_refused TypeRefused (list_any (is_untyped n.held.config) ops) (first_none _ _ b);
      once = not_refused TwiceInOneWrite (is_twice ops) (first_none _ _ c);
      new = none_any (inserts_again n.held.tuples) 0 ops (placed_none (λ i. AlreadyThere i) _ (first_none _ _ d));
      there = none_any (deletes_nothing n.held.tuples) 0 ops (placed_none (λ i. NotThere i) _ (first_none _ _ e));
      room = not_refused Full (is_full n (map event_of ops)) f;
    }

both_none : {A : Type 0} (a b : Option A) → a ≡ None → b ≡ None → or_else a b ≡ None
both_none None b h k = k
both_none (Some x) b h k = absurd (true≢false (ap is_some h))

none_if : (why : Refusal) (b : Bool) → b ≡ false → refused_if why b ≡ None
none_if why b h = ap (λ (c : Bool). refused_if why c) h

accepted : (n : Newest) (ops : List Op) → Passed n ops → write_cause n ops ≡ None
accepted n ops p =
    both_none _ _ (none_if Malformed (not (is_in_range ops)) p.range)
    (both_none _ _ (none_if UnknownRelation (list_any (is_unknown n.held.config) ops) p.known)
    (both_none _ _ (none_if TypeRefused (list_any (is_untyped n.held.config) ops) p.typed)
    (both_none _ _ (none_if TwiceInOneWrite (is_twice ops) p.once)
    (both_none _ _ (ap (at_place (λ i. AlreadyThere i)) (any_none (inserts_again n.held.tuples) 0 ops p.new))
    (both_none _ _ (ap (at_place (λ i. NotThere i)) (any_none (deletes_nothing n.held.tuples) 0 ops p.there))
    (none_if Full (is_full n (map event_of ops)) p.room))))))

same_left : (a b c x y u v : ℕ) → a + u ≡ c + x → b + v ≡ c + y → u ≡ v → x ≡ y → a ≡ b
same_left a b c x y u v h k p q = omega (arith, h, k, p, q)

-- a write of touches in place of another that gives the same events
module _ (n : Newest) (ops : List Op) (events : List Event) (are : AreEventsOf ops events) (p : Passed n ops) where
  any_alike : (test : Op → Bool) (on : Event → Bool) → ((e : Event) → test (touch_of e) ≡ on e) → ((o : Op) → on (event_of o) ≡ test o) → list_any test (map touch_of events) ≡ list_any test ops
  any_alike test on a b =
      any_touched test on a events ∙ sym (list_any-IsPermutation on (map event_of ops) events are.same) ∙ any_given test on b ops

  count_alike : (test : Op → Bool) (on : Event → Bool) → ((e : Event) → test (touch_of e) ≡ on e) → ((o : Op) → on (event_of o) ≡ test o) → count_by test (map touch_of events) ≡ count_by test ops
  count_alike test on a b =
      sum_touched (λ o. cond (test o) 1 0) (λ e. cond (on e) 1 0) (λ e. ap (λ (c : Bool). cond c 1 0) (a e)) events
      ∙ sum_by-IsPermutation (λ e. cond (on e) 1 0) (map event_of ops) events are.same
      ∙ sum_given (λ o. cond (test o) 1 0) (λ e. cond (on e) 1 0) (λ o. ap (λ (c : Bool). cond c 1 0) (b o)) ops

  once_events : IsDistinct is_same_tuple (tuples_of events)
  once_events =
      IsDistinct-IsPermutation is_same_tuple (eq_by_cmp_equiv tuples_total).symm (tuples_of (map event_of ops)) (tuples_of events)
      (IsPermutation-map (λ e. e.tuple) (map event_of ops) events are.same) (once_given ops p.once)

  held_alike : set.len (replay n.held.tuples (map event_of (map touch_of events))) ≡ set.len (replay n.held.tuples (map event_of ops))
  held_alike =
      let s = n.held.tuples in
      let puts : (o : Op) → puts_tuple (touch_of (event_of o)) ≡ puts_tuple o = λ o. ap not (deletes_alike o.kind) in
      let left = tuples_left s (map touch_of events) (once_touched events once_events) in
      let right = tuples_left s ops p.once in
      let taken : count_by (takes_tuple s) (map touch_of events) ≡ count_by (takes_tuple s) ops =
      count_alike (takes_tuple s) (λ e. takes_tuple s (touch_of e)) (λ e. refl) (λ o. ap (λ (b : Bool). not b && set.contains s o.tuple) (puts o)) in
      let added : count_by (adds_tuple s) (map touch_of events) ≡ count_by (adds_tuple s) ops =
      count_alike (adds_tuple s) (λ e. adds_tuple s (touch_of e)) (λ e. refl) (λ o. ap (λ (b : Bool). b && not (set.contains s o.tuple)) (puts o)) in
      same_left _ _ _ _ _ _ _ left right taken added

  puts_alike : puts_in (map event_of (map touch_of events)) ≡ puts_in (map event_of ops)
  puts_alike =
      rows_made (map touch_of events)
      ∙ count_alike puts_tuple (λ e. puts_tuple (touch_of e)) (λ e. refl) (λ o. ap not (deletes_alike o.kind))
      ∙ sym (rows_made ops)

  passes_touched : Passed n (map touch_of events)
  passes_touched =
      record {
        range = ap (λ (m : ℕ). not (nat_le 1 m && nat_le m MAX_OPS)) (length-map events touch_of ∙ length_permutation (map event_of ops) events are.same ∙ length-map ops event_of) ∙ p.range;
        known = any_alike (is_unknown n.held.config) (λ e. not (has_relation n.held.config (rel_of e.tuple.node))) (λ e. refl) (λ o. refl) ∙ p.known;
        typed = any_alike (is_untyped n.held.config) (λ e. not (admits n.held.config e.tuple)) (λ e. refl) (λ o. refl) ∙ p.typed;
        once = once_touched events once_events;
        new = none_inserted n.held.tuples events;
        there = any_alike (deletes_nothing n.held.tuples) (λ e. deletes_nothing n.held.tuples (touch_of e)) (λ e. refl)
            (λ o. ap (λ (b : Bool). b && not (set.contains n.held.tuples o.tuple)) (deletes_alike o.kind)) ∙ p.there;
        room = (λ i. nat_lt MAX_TUPLES (held_alike i) || nat_lt MAX_ROWS (n.rows + puts_alike i) || nat_lt MAX_REV (n.rev + 1)) ∙ p.room;
      }

  not_refused_if_written : commit_cause n (Tuples events) ≡ None
  not_refused_if_written =
      both_none _ _ (none_if Malformed (not (is_in_order events)) (ap not (sorted_in_order events are.ordered once_events))) (accepted n (map touch_of events) passes_touched)

not_false : (b : Bool) → not b ≡ false → b ≡ true
not_false true h = refl
not_false false h = absurd (true≢false h)

written : (n : Newest) (events : List Event) → commit_cause n (Tuples events) ≡ None → IsWritten n events
written n events h =
    let ordered = not_false (is_in_order events) (not_refused Malformed (not (is_in_order events)) (first_none _ _ h)) in (
      map touch_of events,
      record {
        same = subst (λ (es : List Event). IsPermutation (map event_of (map touch_of events)) es) (touches_give events) (IsPermutation-refl (map event_of (map touch_of events)));
        ordered = in_order_sorted events ordered;
      },
      later_none (refused_if Malformed (not (is_in_order events))) _ h,
    )

pub refused_unless_written : (n : Newest) (events : List Event) → (commit_cause n (Tuples events) ≡ None) ↔ IsWritten n events
refused_unless_written n events = (written n events, λ w. not_refused_if_written n w.0 events w.1 (passed n w.0 w.2))
