-- The events of a commit can be taken one after the other.
use Rattle.std.proofs.Common.{◌≡◌, ◌≤◌, ◌<◌, ◌+◌, ◌-◌, ◌*◌, ◌^◌, ℕ, zero, suc, Bool, true, false, ◌&&◌, if◌then◌else◌, ◌==◌, List, [], ◌∷◌, take, drop, length, slice_index_or, refl, sym, ap, subst, ◌∙◌, IsTrue, true≢false, arith, inl, inr}
use Rattle.std.specs.List.{AllByRecursion, IsDistinct}
use Rattle.std.proofs.lemmas.Map.Keys.{IsDistinct-head, IsDistinct-tail}
use Rattle.sqlite_rules.specs.Lists.{Has}
use Rattle.sqlite_rules.proofs.ListLemmas.{all_has}
use Rattle.sqlite_trees.proofs.ListLemmas.{all_of, all_both, all_weaker, all-map}
use Rattle.sqlite_tables.specs.declared.stored.StoredEvent.{StoredEvent}
use Rattle.sqlite_tables.specs.declared.stored.SpanChange.{SpanChange}
use Rattle.sqlite_tables.specs.declared.stored.SpanChange.TheVariants.{Begins, BeginsAnew, Ends}
use Rattle.sqlite_tables.specs.Tables.{Span, Contents, config_at, same_tuple, after_close}
use Rattle.sqlite_tables.specs.Stored.{span_between}
use Rattle.sqlite_tables.specs.Numbered.{BeganBefore, IsShort, IsUpTo}
use Rattle.sqlite.specs.Effect.{Database}
use Rattle.sqlite_tables.specs.Caused.{CanAdd, CanApply, CanBegin, CanClose, CanConfigure, CanDrop, CanSet, CanTake, IsBefore}
use Rattle.sqlite_tables.specs.Numbered.{span_rowid}
use Rattle.sqlite_tables.specs.Steps.{Alters, with_closed, with_span, after_change, after_event, after_events}
use Rattle.sqlite_tables.specs.Caused.{spans_of}
use Rattle.sqlite_tables.specs.inside.Together.{AllBegin, CanBeginAll, with_spans}
use Rattle.sqlite_tables.proofs.Lists.{part, all_part, all_take, distinct_part, map_part}
use Rattle.sqlite_tables.proofs.Numbering.{numbered_more}

closed_began : (s t : Span) (rev : ℕ) (x : Span) → (IsTrue (same_tuple x s) → x.added < rev) → IsTrue (same_tuple (after_close t rev x) s) → (after_close t rev x).added < rev
closed_began s t rev x was = go (same_tuple x t && (x.removed == 0))
  where
    go : (b : Bool) → IsTrue (same_tuple (if b then record x { removed = rev } else x) s) → (if b then record x { removed = rev } else x).added < rev
    go true tie = was tie
    go false tie = was tie

pub began_closed : (s t : Span) (rev : ℕ) (h : Contents) → BeganBefore s rev h → BeganBefore s rev (with_closed t rev h)
began_closed s t rev h was =
    all-map (λ x. IsTrue (same_tuple x s) → x.added < rev) (after_close t rev) h.spans
    (all_weaker (λ x. IsTrue (same_tuple x s) → x.added < rev) (λ x. IsTrue (same_tuple (after_close t rev x) s) → (after_close t rev x).added < rev) (closed_began s t rev) h.spans was)

began_span : (s t : Span) (rev : ℕ) (h : Contents) → same_tuple t s ≡ false → BeganBefore s rev h → BeganBefore s rev (with_span t h)
began_span s t rev h other was = (λ tie. absurd (true≢false (sym tie ∙ other)), was)

-- what is done to another tuple begins no span of this one
began_changed : (change : SpanChange) (s t : Span) (rev : ℕ) (h : Contents) → same_tuple t s ≡ false → BeganBefore s rev h → BeganBefore s rev (after_change change t rev h)
began_changed Begins s t rev h other was = began_span s t rev h other was
began_changed BeginsAnew s t rev h other was = began_span s t rev (with_closed t rev h) other (began_closed s t rev h was)
began_changed Ends s t rev h other was = began_closed s t rev h was

has_place : (rev : ℕ) (events : List StoredEvent) (at : ℕ) (e d : StoredEvent) → at < length events → e ≡ slice_index_or events at d → Has (spans_of rev events) (span_between e.tuple rev 0)
has_place rev [] at e d within is = absurd (omega (arith, within))
has_place rev (y ∷ more) zero e d within is = inl (ap (λ (z : StoredEvent). span_between z.tuple rev 0) is)
has_place rev (y ∷ more) (suc at) e d within is = inr (has_place rev more at e d (omega (arith, within)) is)

-- what is done to others begins no span of those that come later
began_after : (rev at : ℕ) (events : List StoredEvent) (h : Contents) → IsDistinct same_tuple (spans_of rev events) → AllByRecursion (λ s. BeganBefore s rev h) (spans_of rev events)
    → AllByRecursion (λ s. BeganBefore s rev (after_events rev (take at events) h)) (drop at (spans_of rev events))
began_after rev zero events h apart was = was
began_after rev (suc at) [] h apart was = tt
began_after rev (suc at) (e ∷ events) h apart was =
    let t = span_between e.tuple rev 0 in
    let others = IsDistinct-head same_tuple t (spans_of rev events) apart in
    began_after rev at events (after_event rev e h) (IsDistinct-tail same_tuple t (spans_of rev events) apart)
    (all_both (λ s. same_tuple t s ≡ false) (λ s. BeganBefore s rev h) (λ s. BeganBefore s rev (after_event rev e h)) (λ s other before. began_changed e.change s t rev h other before) (spans_of rev events) others was.1)

-- below the revision each span began before it
pub began_before : (s : Span) (rev : ℕ) (h : Contents) → 0 < rev → IsUpTo (rev - 1) h → BeganBefore s rev h
began_before s rev h positive up =
    all_weaker (λ x. (x.added ≤ rev - 1) × (x.removed ≤ rev - 1)) (λ x. IsTrue (same_tuple x s) → x.added < rev) (λ x low tie. omega (arith, positive, low.0)) h.spans up.spans

-- ---- what each statement of an event needs

module _ (event : StoredEvent) (rev at : ℕ) (positive : 0 < rev) (small : rev ≤ 2 ^ 40) (few : at < 256) (db : Database) (can : CanApply event rev at db) where
  abbrev tuple : Span
  tuple = span_between event.tuple rev 0

  pub can_close : CanClose tuple rev db
  can_close = record { contents = can.contents; top = 256 * (rev - 1) + at; fits = omega (arith, small, few); store = can.store; before = can.before; short = can.short }

  pub can_begin : CanBegin tuple rev (span_rowid rev at) db
  can_begin = record { contents = can.contents; top = 256 * (rev - 1) + at; above = omega arith; store = can.store; positive = positive; before = can.before; short = can.short }

  pub can_begin_anew : (next : Database) → Alters (with_closed tuple rev) 0 db next → CanBegin tuple rev (span_rowid rev at) next
  can_begin_anew next made = record {
    contents = with_closed tuple rev can.contents;
    top = 256 * (rev - 1) + at;
    above = omega arith;
    store = record {
      sound = made.sound can.contents can.store.holds can.store.sound;
      holds = made.holds can.contents can.store.holds;
      numbered = made.numbered can.contents can.store.holds (256 * (rev - 1) + at) (omega arith) can.store.numbered;
    };
    positive = positive;
    before = began_closed tuple tuple rev can.contents can.before;
    short = can.short;
  }

-- what the events from a place on need, after those before them
pub can_begin_all : (events : List StoredEvent) (rev at count : ℕ) (db next : Database) → 0 < rev → CanTake events rev db → Alters (after_events rev (take at events)) (256 * (rev - 1) + at) db next
    → CanBeginAll (spans_of rev (part at count events)) rev (span_rowid rev at) next
can_begin_all events rev at count db next positive can made =
    let h = can.before.contents in
    let holds = can.before.holds in
    let last = 256 * (rev - 1) + at in
    let spans = spans_of rev events in
    let after = after_events rev (take at events) h in
    let same : part at count spans ≡ spans_of rev (part at count events) = sym (map_part (λ e. span_between e.tuple rev 0) at count events) in
    let began : AllByRecursion (λ s. BeganBefore s rev h) spans = all_of (λ s. BeganBefore s rev h) (λ s. began_before s rev h positive can.before.up_to) spans in
    record {
      contents = after;
      top = last;
      above = omega arith;
      store = record {
        sound = made.sound h holds can.before.sound;
        holds = made.holds h holds;
        numbered = made.numbered h holds last (omega arith) (numbered_more (256 * (rev - 1)) last db.trees (omega arith) can.before.numbered);
      };
      positive = positive;
      before = subst (AllByRecursion (λ s. BeganBefore s rev after)) same (all_take (λ s. BeganBefore s rev after) count (drop at spans) (began_after rev at events h can.distinct began));
      distinct = subst (IsDistinct same_tuple) same (distinct_part same_tuple at count spans can.distinct);
      short = subst (AllByRecursion IsShort) same (all_part IsShort at count spans can.short);
    }

-- and one alone
pub can_apply : (events : List StoredEvent) (rev at : ℕ) (event : StoredEvent) (db : Database) → length events ≡ 1 → event ≡ slice_index_or events 0 event → CanBeginAll (spans_of rev events) rev (span_rowid rev at) db
    → CanApply event rev at db
can_apply events rev at event db one is can =
    let s = span_between event.tuple rev 0 in
    let there : Has (spans_of rev events) s = has_place rev events 0 event event (omega (arith, one)) is in
    record {
      contents = can.contents;
      store = record { sound = can.store.sound; holds = can.store.holds; numbered = numbered_more can.top (256 * (rev - 1) + at) db.trees (omega (arith, can.above)) can.store.numbered };
      before = all_has (λ t. BeganBefore t rev can.contents) (spans_of rev events) s can.before there;
      short = all_has IsShort (spans_of rev events) s can.short there;
    }

-- events that begin spans do nothing else
pub begin_all : (rev : ℕ) (events : List StoredEvent) (h : Contents) → AllBegin events → with_spans (spans_of rev events) h ≡ after_events rev events h
begin_all rev [] h all = refl
begin_all rev (e ∷ events) h all =
    let s = span_between e.tuple rev 0 in
    begin_all rev events (with_span s h) all.1 ∙ ap (after_events rev events) (ap (λ (change : SpanChange). after_change change s rev h) (sym all.0))

-- ---- what the statements of a transaction need

pub can_set : (key : List ℕ) (f : Contents → Contents) (last rev : ℕ) (db next : Database) → length key ≤ 10 ^ 8 → IsBefore rev db → Alters f last db next → CanSet key next
can_set key f last rev db next short before made =
    let top = 256 * (rev - 1) + last in
    record {
      contents = f before.contents;
      top = top;
      store = record {
        sound = made.sound before.contents before.holds before.sound;
        holds = made.holds before.contents before.holds;
        numbered = made.numbered before.contents before.holds top (omega arith) (numbered_more (256 * (rev - 1)) top db.trees (omega arith) before.numbered);
      };
      short = short;
    }

pub can_add : (text : List ℕ) (rev : ℕ) (db : Database) → 0 < rev → CanConfigure text rev db → CanAdd (config_at rev text) db
can_add text rev db positive can = record {
  contents = can.before.contents;
  top = 256 * (rev - 1);
  store = record { sound = can.before.sound; holds = can.before.holds; numbered = can.before.numbered };
  newest = rev - 1;
  up_to = can.before.up_to;
  later = omega (arith, positive);
  short = omega (arith, can.short);
}

-- what a change leaves, rows can be taken out of
pub can_drop : (f : Contents → Contents) (db next : Database) → CanDrop db → Alters f 0 db next → CanDrop next
can_drop f db next can made = record {
  contents = f can.contents;
  top = can.top;
  store = record {
    sound = made.sound can.contents can.store.holds can.store.sound;
    holds = made.holds can.contents can.store.holds;
    numbered = made.numbered can.contents can.store.holds can.top (omega arith) can.store.numbered;
  };
}

-- and the state be written
pub can_raise : (key : List ℕ) (f : Contents → Contents) (db next : Database) → length key ≤ 10 ^ 8 → CanDrop db → Alters f 0 db next → CanSet key next
can_raise key f db next short can made =
    let left = can_drop f db next can made in
    record { contents = left.contents; top = left.top; store = left.store; short = short }
