-- Each commit of the history that rows make is a configuration, or has events, in the order of their tuples.
use Rattle.std.proofs.Common.{◌≡◌, ℕ, ◌+◌, ◌-◌, ◌<◌, ◌≤◌, List, [], ◌∷◌, map, true, zero, suc, refl, sym, ◌∙◌, arith, T}
use Rattle.std.specs.Prelude.{Bool, false, Option, Some, None}
use Rattle.std.specs.FinMap as finite
use Rattle.std.specs.FinMap.{is_sorted}
use Rattle.std.specs.FinMap.Entries.{below_all}
use Rattle.std.specs.List.{list_all, list_any}
use Rattle.std.specs.Ordering.{is_lt, eq_by_cmp}
use Rattle.std.proofs.lemmas.Bool.{true≢false, and_parts, and_from}
use Rattle.names.specs.Order.{tuple_cmp, is_same_tuple}
use Rattle.names.specs.declared.tuple.Tuple.{Tuple}
use Rattle.names.specs.declared.commit.Commit.TheVariants as kinds
use Rattle.meaning.specs.TupleSet as set
use Rattle.meaning.specs.Config.{Configured}
use Rattle.meaning.proofs.TupleSets.{contains_items}
use Rattle.rows.specs.Ordered.{is_in_order, is_ordered, AreOrdered}
use Rattle.store.specs.Written.{TupleSpan, Written, is_moved, tuples_of, event_at, events_at, config_at, commit_of, commit_at, commits_above, commits_of, is_one, brings_one}
use Rattle.store.proofs.Picking.{In, found, any_in}
use Rattle.store.proofs.Living.{is_of, contains_of}
use Rattle.store.proofs.Moving.{same_self}
use Rattle.store.proofs.Held.{IsWhole}

is_true : (b : Bool) → T b → b ≡ true
is_true true h = refl
is_true false h = absurd h

-- ---- the events of a revision

module _ (rev : ℕ) (spans : List TupleSpan) where
  in_order : (es : List (Tuple × Unit {0})) → is_sorted tuple_cmp es ≡ true → is_in_order (map (event_at rev spans) (map (λ e. e.0) es)) ≡ true
  in_order [] h = refl
  in_order (e ∷ []) h = refl
  in_order (e ∷ f ∷ es) h =
      let p = and_parts (below_all tuple_cmp e.0 (f ∷ es)) (is_sorted tuple_cmp (f ∷ es)) h in
      let next = and_parts (is_lt (tuple_cmp e.0 f.0)) (below_all tuple_cmp e.0 es) p.0 in
      and_from (is_lt (tuple_cmp e.0 f.0)) (is_in_order (map (event_at rev spans) (map (λ e. e.0) (f ∷ es)))) next.0 (in_order (f ∷ es) p.1)

  events_in_order : is_in_order (events_at rev spans) ≡ true
  events_in_order =
      let moved = tuples_of (is_moved rev) spans in
      in_order (finite.entries moved) (is_true (is_sorted tuple_cmp (finite.entries moved)) (finite.entries_sorted moved))

  -- where a tuple comes or goes, there is an event
  some_event : (ts : List Tuple) (t : Tuple) → list_any (eq_by_cmp tuple_cmp t) ts ≡ true → is_in_order (map (event_at rev spans) ts) ≡ true → is_ordered (kinds.Tuples (map (event_at rev spans) ts)) ≡ true
  some_event [] t some order = absurd (true≢false (sym some))
  some_event (x ∷ xs) t some order = order

  events_ordered : list_any (is_moved rev) spans ≡ true → is_ordered (kinds.Tuples (events_at rev spans)) ≡ true
  events_ordered moved = by_span (found (is_moved rev) spans moved)
    where
      by_span : (l : TupleSpan) × In l spans × (is_moved rev l ≡ true) → is_ordered (kinds.Tuples (events_at rev spans)) ≡ true
      by_span (l, i, moves) =
          let has = contains_of (is_moved rev) spans l.tuple ∙ any_in (is_of l.tuple (is_moved rev)) spans l i (and_from (is_same_tuple l.tuple l.tuple) (is_moved rev l) (same_self l.tuple) moves) in
          some_event (set.items (tuples_of (is_moved rev) spans)) l.tuple (sym (contains_items (tuples_of (is_moved rev) spans) l.tuple) ∙ has) events_in_order

-- ---- its commit

commit_ordered : (w : Written) (rev : ℕ) → brings_one w rev ≡ true → is_ordered (commit_at w rev) ≡ true
commit_ordered w rev = by_kind (config_at rev w.configs)
  where
    by_kind : (o : Option Configured) → is_one o (list_any (is_moved rev) w.spans) ≡ true → is_ordered (commit_of o (events_at rev w.spans)) ≡ true
    by_kind (Some config) one = refl
    by_kind None moved = events_ordered rev w.spans moved

-- ---- all commits

above_ordered : (w : Written) (n rev : ℕ) → ((at : ℕ) → rev < at → at ≤ rev + n → brings_one w at ≡ true) → AreOrdered (commits_above w rev n)
above_ordered w zero rev whole = refl
above_ordered w (suc n) rev whole =
    and_from (is_ordered (commit_at w (rev + 1))) (list_all is_ordered (commits_above w (rev + 1) n)) (commit_ordered w (rev + 1) (whole (rev + 1) (omega arith) (omega arith)))
    (above_ordered w n (rev + 1) (λ at low high. whole at (omega (arith, low)) (omega (arith, high))))

pub history_ordered : (w : Written) → IsWhole w → AreOrdered (commits_of w)
history_ordered w whole = above_ordered w (w.newest - w.floor) w.floor (λ at low high. whole.whole at low (let order = whole.order in omega (arith, order, high)))
