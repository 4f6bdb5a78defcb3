-- What is watched of commits whose events are in order is in order.
use Rattle.std.proofs.Common.{◌≡◌, ℕ, ◌+◌, ◌<◌, ◌≤◌, Bool, true, false, cond, List, [], ◌∷◌, ◌++◌, refl, ap, sym, ◌∙◌, arith, true≢false}
use Rattle.std.specs.Prelude.{map, filter}
use Rattle.std.specs.List.{AllByRecursion, list_all}
use Rattle.std.specs.List.Sorted.{IsStrictlySortedBy}
use Rattle.std.specs.Ordering.{is_lt, nat_cmp, ordering_then}
use Rattle.std.specs.Cmp.{nat_cmp_is}
use Rattle.std.specs.declared.cmp.Ordering.{Ordering}
use Rattle.std.specs.declared.cmp.Ordering.TheVariants.{Less, Equal, Greater}
use Rattle.std.proofs.lemmas.Bool.{and_parts}
use Rattle.names.specs.Order.{tuple_cmp}
use Rattle.names.specs.declared.commit.Event.{Event}
use Rattle.names.specs.declared.commit.Commit.{Commit}
use Rattle.names.specs.declared.commit.Commit.TheVariants.{Tuples, Config}
use Rattle.meaning.specs.Config.{Configured}
use Rattle.meaning.specs.History.{History}
use Rattle.meaning.proofs.TupleSets.{tuples_total}
use Rattle.rows.specs.Ordered.{is_below, is_in_order, is_ordered, AreOrdered}
use Rattle.watch.specs.declared.watched.Namespaces.{Namespaces}
use Rattle.watch.specs.declared.watched.WatchedEvent.{WatchedEvent}
use Rattle.watch.specs.Watched.{is_watched, watched_of, watched_in, watched, watched_cmp}

is_less : (o : Ordering) → is_lt o ≡ true → o ≡ Less
is_less Less h = refl
is_less Equal h = absurd (true≢false (sym h))
is_less Greater h = absurd (true≢false (sym h))

same_rev : (rev : ℕ) → nat_cmp rev rev ≡ Equal
same_rev rev = sym (nat_cmp_is rev rev Equal refl)

earlier_rev : (m n : ℕ) → m < n → nat_cmp m n ≡ Less
earlier_rev m n h = sym (nat_cmp_is m n Less h)

-- the first of events in order is below all of them
through : (e f : Event) (es : List Event) → tuple_cmp e.tuple f.tuple ≡ Less → is_below f es ≡ true → is_below e es ≡ true
through e f [] under h = refl
through e f (g ∷ gs) under h = ap is_lt (tuples_total.trans e.tuple f.tuple g.tuple under (is_less (tuple_cmp f.tuple g.tuple) h))

abbrev IsAbove : ℕ → WatchedEvent → Type 0
IsAbove low w = low < w.rev

module _ (n : Namespaces) where
  module _ (rev : ℕ) where
    abbrev at : Event → WatchedEvent
    at e = record { rev = rev; event = e }

    abbrev IsAfter : Event → WatchedEvent → Type 0
    IsAfter e w = watched_cmp (at e) w ≡ Less

    after_same : (e f : Event) → tuple_cmp e.tuple f.tuple ≡ Less → IsAfter e (at f)
    after_same e f under = ap (λ o. ordering_then o (tuple_cmp e.tuple f.tuple)) (same_rev rev) ∙ under

    after_later : (e : Event) (w : WatchedEvent) → rev < w.rev → IsAfter e w
    after_later e w h = ap (λ o. ordering_then o (tuple_cmp e.tuple w.event.tuple)) (earlier_rev rev w.rev h)

    all_later : (e : Event) (ws : List WatchedEvent) → AllByRecursion (IsAbove rev) ws → AllByRecursion (IsAfter e) ws
    all_later e [] h = tt
    all_later e (w ∷ ws) h = (after_later e w h.0, all_later e ws h.1)

    -- all that follow an event in order are after it
    all_after : (e : Event) (es : List Event) (ws : List WatchedEvent) → is_below e es ≡ true → is_in_order es ≡ true → AllByRecursion (IsAbove rev) ws → AllByRecursion (IsAfter e) (watched_of n rev es ++ ws)
    all_after e [] ws below order later = all_later e ws later
    all_after e (f ∷ fs) ws below order later =
        let parts = and_parts (is_below f fs) (is_in_order fs) order in
        go (is_watched n f.tuple) (all_after e fs ws (through e f fs under parts.0) parts.1 later)
      where
        under : tuple_cmp e.tuple f.tuple ≡ Less
        under = is_less (tuple_cmp e.tuple f.tuple) below

        go : (b : Bool) → AllByRecursion (IsAfter e) (watched_of n rev fs ++ ws)
            → AllByRecursion (IsAfter e) (map at (cond b (f ∷ filter (λ g. is_watched n g.tuple) fs) (filter (λ g. is_watched n g.tuple) fs)) ++ ws)
        go true rest = (after_same e f under, rest)
        go false rest = rest

    events_then : (es : List Event) (ws : List WatchedEvent) → is_in_order es ≡ true → AllByRecursion (IsAbove rev) ws → IsStrictlySortedBy watched_cmp ws → IsStrictlySortedBy watched_cmp (watched_of n rev es ++ ws)
    unfolding IsStrictlySortedBy
    events_then [] ws order later sorted = sorted
    events_then (e ∷ es) ws order later sorted = go (is_watched n e.tuple) (events_then es ws parts.1 later sorted)
      where
        parts : (is_below e es ≡ true) × (is_in_order es ≡ true)
        parts = and_parts (is_below e es) (is_in_order es) order

        go : (b : Bool) → IsStrictlySortedBy watched_cmp (watched_of n rev es ++ ws)
            → IsStrictlySortedBy watched_cmp (map at (cond b (e ∷ filter (λ g. is_watched n g.tuple) es) (filter (λ g. is_watched n g.tuple) es)) ++ ws)
        go true rest = (all_after e es ws parts.0 parts.1 later, rest)
        go false rest = rest

    commit_then : (c : Commit Configured) (ws : List WatchedEvent) → is_ordered c ≡ true → AllByRecursion (IsAbove rev) ws → IsStrictlySortedBy watched_cmp ws → IsStrictlySortedBy watched_cmp (watched_in n rev c ++ ws)
    commit_then (Tuples []) ws order later sorted = sorted
    commit_then (Tuples (e ∷ es)) ws order later sorted = events_then (e ∷ es) ws order later sorted
    commit_then (Config config) ws order later sorted = sorted

    -- those of a revision above another, and then others above it
    above_of : (low : ℕ) (es : List Event) (ws : List WatchedEvent) → low < rev → AllByRecursion (IsAbove low) ws → AllByRecursion (IsAbove low) (watched_of n rev es ++ ws)
    above_of low [] ws h all = all
    above_of low (e ∷ es) ws h all = go (is_watched n e.tuple) (above_of low es ws h all)
      where
        go : (b : Bool) → AllByRecursion (IsAbove low) (watched_of n rev es ++ ws)
            → AllByRecursion (IsAbove low) (map at (cond b (e ∷ filter (λ g. is_watched n g.tuple) es) (filter (λ g. is_watched n g.tuple) es)) ++ ws)
        go true rest = (h, rest)
        go false rest = rest

  all_above : (low above : ℕ) (h : History) → low ≤ above → AllByRecursion (IsAbove low) (watched n above h)
  all_above low above [] under = tt
  all_above low above (Tuples es ∷ cs) under = above_of (above + 1) low es (watched n (above + 1) cs) (omega (arith, under)) (all_above low (above + 1) cs (omega (arith, under)))
  all_above low above (Config config ∷ cs) under = all_above low (above + 1) cs (omega (arith, under))

pub watched_ordered : (n : Namespaces) (above : ℕ) (h : History) → AreOrdered h → IsStrictlySortedBy watched_cmp (watched n above h)
unfolding IsStrictlySortedBy
watched_ordered n above [] ordered = tt
watched_ordered n above (c ∷ cs) ordered =
    let parts = and_parts (is_ordered c) (list_all is_ordered cs) ordered in
    commit_then n (above + 1) c (watched n (above + 1) cs) parts.0 (all_above n (above + 1) (above + 1) cs (omega arith)) (watched_ordered n (above + 1) cs parts.1)
