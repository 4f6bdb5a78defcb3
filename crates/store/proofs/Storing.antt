-- What the statements make of the tables, as rows of tuples and configurations.
use Rattle.std.proofs.Common.{◌≡◌, ℕ, ◌+◌, ◌<◌, arith, List, [], ◌∷◌, refl, sym, ap, subst, ◌∙◌, inl, inr}
use Rattle.std.specs.Prelude.{Bool, true, false, cond, ◌&&◌, ◌==◌, map, codes, IsPermutation, if◌then◌else◌}
use Rattle.std.proofs.lemmas.List.Sorted.{IsPermutation-map, IsPermutation-cons}
use Rattle.names.specs.Spelling.{IsTuple}
use Rattle.names.specs.Order.{is_same_tuple}
use Rattle.names.specs.declared.tuple.Tuple.{Tuple}
use Rattle.names.specs.declared.commit.Event.{Event}
use Rattle.names.specs.declared.commit.EventKind.{EventKind}
use Rattle.names.specs.declared.commit.EventKind.TheVariants.{Put, Del}
use Rattle.names.specs.declared.commit.Commit.TheVariants as kinds
use Rattle.meaning.specs.Config.{Configured}
use Rattle.config.specs.Causes.{Accepts}
use Rattle.rows.specs.Retained.{Retained, newest, newest_of, with_commit}
use Rattle.rows.specs.Follows.{IsNext}
use Rattle.tables.specs.Storing.{IsNextAt, PutsAbsent}
use Rattle.tables.specs.declared.puts.Puts.{Puts}
use Rattle.tables.specs.declared.puts.Puts.TheVariants.{Absent, Any}
use Rattle.sqlite_tables.specs.declared.stored.SpanChange.{SpanChange}
use Rattle.sqlite_tables.specs.declared.stored.SpanChange.TheVariants.{Begins, BeginsAnew, Ends}
use Rattle.sqlite_tables.specs.declared.stored.StoredEvent as stored
use Rattle.sqlite_tables.specs.Stored as texts
use Rattle.sqlite_tables.specs.Tables.{Span, Contents, after_close, with_value}
use Rattle.sqlite_tables.specs.Steps.{after_change, after_event, after_events, after_write, after_configure}
use Rattle.store.specs.Written.{TupleSpan, Written, IsSpan, IsSound, IsWritten, IsHistory, Pairwise, history_of, span_of, config_row_of, entries_of, canonical}
use Rattle.store.specs.inside.EventTexts.{change_of, event_texts, event_texts_in}
use Rattle.store.proofs.Picking.{In, all_in}
use Rattle.store.proofs.Events.{ended, with_kind, with_event, with_events, ended_tuple}
use Rattle.store.proofs.Begins.{IsShut, AreShut, ended_none, shut_puts, shut_rest}
use Rattle.store.proofs.Causes.{accepted}
use Rattle.store.proofs.Together.{are_other}
use Rattle.store.proofs.Spellings.{same_texts}
use Rattle.store.proofs.Following.{with_tuples, tuples_history, tuples_sound, newest_is}
use Rattle.store.proofs.Configuring.{with_config, config_history, config_sound}

-- ---- one event

-- the tuple's texts, at some revision
abbrev at_rev : Span → ℕ → Span
at_rev s rev = record { namespace = s.namespace; object = s.object; relation = s.relation; subject = s.subject; added = rev; removed = 0 }

abbrev texts_in : Tuple → Span
texts_in t = span_of (record { tuple = t; added = 0; removed = 0 })

closes_one : (rev : ℕ) (t : Tuple) (l : TupleSpan) → IsTuple t → IsTuple l.tuple → after_close (at_rev (texts_in t) rev) rev (span_of l) ≡ span_of (ended rev t l)
closes_one rev t l is_t is_l = ap (λ b. if (b && (l.removed == 0)) then record (span_of l) { removed = rev } else span_of l) (same_texts l t is_l is_t) ∙ by_test (is_same_tuple t l.tuple && (l.removed == 0))
  where
    by_test : (b : Bool) → (if b then record (span_of l) { removed = rev } else span_of l) ≡ span_of (cond b (record { tuple = l.tuple; added = l.added; removed = rev }) l)
    by_test true = refl
    by_test false = refl

closes_all : (rev : ℕ) (t : Tuple) (ls : List TupleSpan) → IsTuple t → ((l : TupleSpan) → In l ls → IsTuple l.tuple) → map (after_close (at_rev (texts_in t) rev) rev) (map span_of ls) ≡ map span_of (map (ended rev t) ls)
closes_all rev t [] is_t are = refl
closes_all rev t (l ∷ ls) is_t are =
    ap (λ s. s ∷ map (after_close (at_rev (texts_in t) rev) rev) (map span_of ls)) (closes_one rev t l is_t (are l (inl refl)))
    ∙ ap (λ ss. span_of (ended rev t l) ∷ ss) (closes_all rev t ls is_t (λ m i. are m (inr i)))

same_as : {A : Type 0} (xs ys zs : List A) → IsPermutation xs ys → ys ≡ zs → IsPermutation xs zs
same_as xs ys zs p e = subst (λ v. IsPermutation xs v) e p

one_event : (rev : ℕ) (puts : Puts) (x : stored.StoredEvent) (e : Event) (ls : List TupleSpan) (h : Contents) → event_texts_in x ≡ event_texts puts e → IsTuple e.tuple → ((l : TupleSpan) → In l ls → IsTuple l.tuple)
    → (puts ≡ Absent → e.kind ≡ Put → IsShut e.tuple ls) → IsPermutation h.spans (map span_of ls) → IsPermutation (after_event rev x h).spans (map span_of (with_event rev ls e))
one_event rev puts x e ls h is spelled are shut same =
    subst (λ (p : SpanChange × Span). IsPermutation (after_change p.0 (at_rev p.1 rev) rev h).spans (map span_of (with_event rev ls e))) (sym is) (by_kind puts e.kind shut)
  where
    ends : IsPermutation (map (after_close (at_rev (texts_in e.tuple) rev) rev) h.spans) (map span_of (map (ended rev e.tuple) ls))
    ends = same_as _ _ _ (IsPermutation-map (after_close (at_rev (texts_in e.tuple) rev) rev) h.spans (map span_of ls) same) (closes_all rev e.tuple ls spelled are)

    by_kind : (p : Puts) (k : EventKind) → (p ≡ Absent → k ≡ Put → IsShut e.tuple ls) → IsPermutation (after_change (change_of p k) (at_rev (texts_in e.tuple) rev) rev h).spans (map span_of (with_kind k rev e.tuple ls))
    by_kind Absent Put none = IsPermutation-cons (at_rev (texts_in e.tuple) rev) _ _ (same_as _ _ _ same (ap (map span_of) (sym (ended_none rev e.tuple ls (none refl refl)))))
    by_kind Any Put none = IsPermutation-cons (at_rev (texts_in e.tuple) rev) _ _ ends
    by_kind Absent Del none = ends
    by_kind Any Del none = ends

in_ended : (rev : ℕ) (t : Tuple) (ls : List TupleSpan) → ((l : TupleSpan) → In l ls → IsTuple l.tuple) → (m : TupleSpan) → In m (map (ended rev t) ls) → IsTuple m.tuple
in_ended rev t [] are m i = absurd i
in_ended rev t (l ∷ ls) are m (inl e) = subst (λ (u : Tuple). IsTuple u) (sym (ap (λ (x : TupleSpan). x.tuple) e ∙ ended_tuple rev t l)) (are l (inl refl))
in_ended rev t (l ∷ ls) are m (inr i) = in_ended rev t ls (λ n j. are n (inr j)) m i

still_spelled : (rev : ℕ) (k : EventKind) (t : Tuple) (ls : List TupleSpan) → IsTuple t → ((l : TupleSpan) → In l ls → IsTuple l.tuple) → (m : TupleSpan) → In m (with_kind k rev t ls) → IsTuple m.tuple
still_spelled rev Put t ls is are m (inl e) = subst (λ (u : Tuple). IsTuple u) (sym (ap (λ (x : TupleSpan). x.tuple) e)) is
still_spelled rev Put t ls is are m (inr i) = in_ended rev t ls are m i
still_spelled rev Del t ls is are m i = in_ended rev t ls are m i

-- ---- all events

same_rest : (rev : ℕ) (h : Contents) (x : stored.StoredEvent) → ((after_event rev x h).configs ≡ h.configs) × ((after_event rev x h).entries ≡ h.entries)
same_rest rev h x = by_change x.change
  where
    by_change : (c : SpanChange) → ((after_change c (texts.span_between x.tuple rev 0) rev h).configs ≡ h.configs) × ((after_change c (texts.span_between x.tuple rev 0) rev h).entries ≡ h.entries)
    by_change Begins = (refl, refl)
    by_change BeginsAnew = (refl, refl)
    by_change Ends = (refl, refl)

-- after the events the contents are these spans, and the rest as before
pub record Rows (old new : Contents) (ls : List TupleSpan) : Type 0 where
  pub spans : IsPermutation new.spans (map span_of ls)
  pub configs : new.configs ≡ old.configs
  pub entries : new.entries ≡ old.entries

all_events : (rev : ℕ) (puts : Puts) (xs : List stored.StoredEvent) (es : List Event) (ls : List TupleSpan) (h : Contents) → 0 < rev → map event_texts_in xs ≡ map (event_texts puts) es → ((e : Event) → In e es → IsTuple e.tuple)
    → ((l : TupleSpan) → In l ls → IsTuple l.tuple) → Pairwise are_other es → AreShut puts es ls → IsPermutation h.spans (map span_of ls) → Rows h (after_events rev xs h) (with_events rev es ls)
all_events rev puts [] [] ls h some is spelled are once shut same = record { spans = same; configs = refl; entries = refl }
all_events rev puts [] (e ∷ es) ls h some is spelled are once shut same = cc
all_events rev puts (x ∷ xs) [] ls h some is spelled are once shut same = cc
all_events rev puts (x ∷ xs) (e ∷ es) ls h some is spelled are once shut same =
    let rest = all_events rev puts xs es (with_event rev ls e) (after_event rev x h) some (tail is) (λ f i. spelled f (inr i)) (still_spelled rev e.kind e.tuple ls (spelled e (inl refl)) are) once.1 (shut_rest rev puts e es ls some once shut)
    (one_event rev puts x e ls h (head is) (spelled e (inl refl)) are (λ absent put. shut absent e (inl refl) put) same) in
    let r = same_rest rev h x in
    record { spans = rest.spans; configs = rest.configs ∙ r.0; entries = rest.entries ∙ r.1 }
  where
    head : ◌≡◌ {A = List (SpanChange × Span)} (event_texts_in x ∷ map event_texts_in xs) (event_texts puts e ∷ map (event_texts puts) es) → event_texts_in x ≡ event_texts puts e
    head e = cc

    tail : ◌≡◌ {A = List (SpanChange × Span)} (event_texts_in x ∷ map event_texts_in xs) (event_texts puts e ∷ map (event_texts puts) es) → map event_texts_in xs ≡ map (event_texts puts) es
    tail e = cc

-- ---- the state

newest_set : (w : Written) (v : Written) (rev : ℕ) → v.number ≡ w.number → v.floor ≡ w.floor → v.newest ≡ rev → map (with_value (codes "newest") rev) (entries_of w) ≡ entries_of v
newest_set w v rev a b c = cc

-- ---- the commits

events_from : (w : Written) (sound : IsSound w) (h : Contents) (puts : Puts) (xs : List stored.StoredEvent) (es : List Event) → IsWritten h w → IsNext (history_of w) (kinds.Tuples es) → (puts ≡ Absent → PutsAbsent (history_of w) (kinds.Tuples es))
    → map event_texts_in xs ≡ map (event_texts puts) es → ((e : Event) → In e es → IsTuple e.tuple) → IsHistory (after_write (w.newest + 1) xs h) (with_commit (history_of w) (kinds.Tuples es))
events_from w sound h puts xs es is next absent texts_is spelled =
    let once = (accepted (newest_of (history_of w)) es next).once in
    let rows = all_events (w.newest + 1) puts xs es w.spans h (omega arith) texts_is spelled (λ l i. (all_in (IsSpan w.floor w.newest) w.spans sound.spans_are l i).spelled) once (shut_puts w sound puts es absent) is.spans in (
      with_tuples w sound es,
      record {
        spans = rows.spans;
        configs = subst (λ cs. IsPermutation cs (map config_row_of w.configs)) (sym rows.configs) is.configs;
        entries = subst (λ cs. IsPermutation (map (with_value (codes "newest") (w.newest + 1)) cs) (entries_of (with_tuples w sound es))) (sym rows.entries)
            (same_as _ _ _ (IsPermutation-map (with_value (codes "newest") (w.newest + 1)) h.entries (entries_of w) is.entries) (newest_set w (with_tuples w sound es) (w.newest + 1) refl refl refl));
      },
      tuples_sound w sound es spelled next,
      tuples_history w sound es spelled next,
    )

-- the contents after a write are the history with its commit
pub events_next : (h : Contents) (r : Retained) (rev : ℕ) (puts : Puts) (xs : List stored.StoredEvent) (es : List Event) → IsHistory h r → IsNextAt r rev (kinds.Tuples es) puts
    → map event_texts_in xs ≡ map (event_texts puts) es → ((e : Event) → In e es → IsTuple e.tuple) → IsHistory (after_write rev xs h) (with_commit r (kinds.Tuples es))
events_next h r rev puts xs es (w, is, sound, same) next texts_is spelled =
    let from = events_from w sound h puts xs es is (subst (λ (q : Retained). IsNext q (kinds.Tuples es)) (sym same) next.0) (λ absent. subst (λ (q : Retained). PutsAbsent q (kinds.Tuples es)) (sym same) (next.2 absent)) texts_is spelled in
    let rev_is : w.newest + 1 ≡ rev = ap (λ n. n + 1) (sym (newest_is w sound) ∙ ap newest same) ∙ sym next.1 in
    subst (λ n. IsHistory (after_write n xs h) (with_commit r (kinds.Tuples es))) rev_is
    (subst (λ (q : Retained). IsHistory (after_write (w.newest + 1) xs h) (with_commit q (kinds.Tuples es))) same from)

config_from : (w : Written) (sound : IsSound w) (h : Contents) (text : List ℕ) (config : Configured) → IsWritten h w → IsNext (history_of w) (kinds.Config config)
    → text ≡ canonical config → Accepts text config → IsHistory (after_configure (w.newest + 1) text h) (with_commit (history_of w) (kinds.Config config))
config_from w sound h text config is next text_is accepts =
    let valid : Accepts (canonical config) config = subst (λ t. Accepts t config) text_is accepts in (
      with_config w sound config valid next,
      record {
        spans = is.spans;
        configs = subst (λ t. IsPermutation (record { rev = w.newest + 1; text = t } ∷ h.configs) (record { rev = w.newest + 1; text = canonical config } ∷ map config_row_of w.configs)) (sym text_is) (IsPermutation-cons _ _ _ is.configs);
        entries = same_as _ _ _ (IsPermutation-map (with_value (codes "newest") (w.newest + 1)) h.entries (entries_of w) is.entries) (newest_set w (with_config w sound config valid next) (w.newest + 1) refl refl refl);
      },
      config_sound w sound config valid next,
      config_history w sound config valid next,
    )

-- and those after a configuration
pub config_next : (h : Contents) (r : Retained) (rev : ℕ) (text : List ℕ) (config : Configured) → IsHistory h r → IsNext r (kinds.Config config) → rev ≡ newest r + 1
    → text ≡ canonical config → Accepts text config → IsHistory (after_configure rev text h) (with_commit r (kinds.Config config))
config_next h r rev text config (w, is, sound, same) next at text_is accepts =
    let from = config_from w sound h text config is (subst (λ (q : Retained). IsNext q (kinds.Config config)) (sym same) next) text_is accepts in
    let rev_is : w.newest + 1 ≡ rev = ap (λ n. n + 1) (sym (newest_is w sound) ∙ ap newest same) ∙ sym at in
    subst (λ n. IsHistory (after_configure n text h) (with_commit r (kinds.Config config))) rev_is
    (subst (λ (q : Retained). IsHistory (after_configure (w.newest + 1) text h) (with_commit q (kinds.Config config))) same from)
