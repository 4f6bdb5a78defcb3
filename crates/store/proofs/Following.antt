-- The rows after a commit are the history with that commit.
use Rattle.std.proofs.Common.{◌≡◌, ℕ, ◌+◌, ◌-◌, ◌<◌, ◌≤◌, List, [], ◌∷◌, ◌++◌, length, refl, sym, ap, subst, ◌∙◌, inl, inr, arith, zero, suc}
use Rattle.std.specs.Prelude.{Bool, true, false, cond, not, ◌&&◌, ◌||◌, ◌==◌, ◌⊎◌, map, All, Some, None}
use Rattle.std.specs.List.{list_any}
use Rattle.std.specs.Cmp.{eq_by_cmp_equiv}
use Rattle.std.specs.Ordering.{eq_by_cmp}
use Rattle.std.proofs.lemmas.Bool.{true≢false, or_left, or_parts, or_from, and_parts, and_from, and_right, ne_eqb, cases_lt, not-true}
use Rattle.std.proofs.lemmas.List.Elements.{All-head, All-tail, All-weaker}
use Rattle.names.specs.declared.limits.TheConstants.{MAX_ROWS, MAX_TUPLES}
use Rattle.names.specs.Spelling.{IsTuple}
use Rattle.names.specs.Order.{tuple_cmp, is_same_tuple}
use Rattle.names.specs.declared.tuple.Tuple.{Tuple}
use Rattle.names.specs.declared.commit.Event.{Event}
use Rattle.names.specs.declared.commit.EventKind.{EventKind}
use Rattle.names.specs.declared.commit.EventKind.TheVariants.{Put, Del}
use Rattle.names.specs.declared.commit.Commit.{Commit}
use Rattle.names.specs.declared.commit.Commit.TheVariants as kinds
use Rattle.meaning.specs.TupleSet as set
use Rattle.meaning.specs.TupleSet.{Tuples}
use Rattle.meaning.specs.Config.{Configured}
use Rattle.meaning.specs.Snap.{Snap}
use Rattle.meaning.specs.Admits.{admits}
use Rattle.meaning.specs.History.{History, after_commit, after_commits, rows_of, commit_rows}
use Rattle.meaning.proofs.TupleSets.{contains_from_list, same_tuples, items_from_list, tuples_total}
use Rattle.rows.specs.Retained.{Retained, newest, newest_of, spans_of, with_commit}
use Rattle.rows.specs.Follows.{IsNext}
use Rattle.store.specs.Written.{TupleSpan, ConfigAt, Written, IsSpan, IsSound, IsConfigAt, is_alive, is_moved, tuples_of, is_put_at, event_at, events_at, config_at, commit_of, commit_at, commits_above, config_up_to, is_one, brings_one, history_of}
use Rattle.store.proofs.Picking.{In, same_bool, found, any_in, all_in, all_from, any_same, any_none, pair_in}
use Rattle.store.proofs.Living.{is_of, contains_of, alive_still}
use Rattle.store.proofs.Held.{puts, whole_of, held_newest, last_still}
use Rattle.store.proofs.Events.{with_events, Stand}
use Rattle.store.proofs.Standing.{Admitted}
use Rattle.store.proofs.Causes.{Accepted, accepted, any_map}
use Rattle.store.proofs.Together.{Coming, are_other, same_turned, stand_all, moved_all, put_all, admitted_all, alive_before, moved_before, any_moved_before, put_before, admitted_before}

pub itself : (t : Tuple) → is_same_tuple t t ≡ true
itself t = (eq_by_cmp_equiv tuples_total).refl t

-- ---- lists of commits

pub commits_length : (w : Written) (n rev : ℕ) → length (commits_above w rev n) ≡ n
commits_length w zero rev = refl
commits_length w (suc n) rev = ap suc (commits_length w n (rev + 1))

pub commits_push : (v w : Written) (n rev : ℕ) → ((at : ℕ) → rev < at → at ≤ rev + n → commit_at v at ≡ commit_at w at)
    → commits_above v rev (suc n) ≡ commits_above w rev n ++ commit_at v (rev + n + 1) ∷ []
commits_push v w zero rev same = ap (λ r. commit_at v r ∷ []) (omega arith)
commits_push v w (suc n) rev same =
    ap (λ c. c ∷ commits_above v (rev + 1) (suc n)) (same (rev + 1) (omega arith) (omega arith))
    ∙ ap (λ h. commit_at w (rev + 1) ∷ h) (commits_push v w n (rev + 1) (λ at low high. same at (omega arith) (omega arith)))
    ∙ ap (λ r. commit_at w (rev + 1) ∷ (commits_above w (rev + 1) n ++ commit_at v r ∷ [])) (omega arith)

pub after_push : (s : Snap) (h : History) (c : Commit Configured) → after_commits s (h ++ c ∷ []) ≡ after_commit (after_commits s h) c
after_push s [] c = refl
after_push s (b ∷ h) c = after_push (after_commit s b) h c

pub rows_push : (h : History) (c : Commit Configured) → rows_of (h ++ c ∷ []) ≡ rows_of h + commit_rows c
rows_push [] c = omega arith
rows_push (b ∷ h) c = let rest = rows_push h c in omega (arith, rest)

pub same_history : (number floor : ℕ) (b c : Snap) (h k : History) → b ≡ c → h ≡ k
    → ◌≡◌ {A = Retained} (record { number = number; floor = floor; base = b; commits = h }) (record { number = number; floor = floor; base = c; commits = k })
same_history number floor b c h k p q = cc

pub same_snap : (c d : Configured) (s t : Tuples) → c ≡ d → s ≡ t → ◌≡◌ {A = Snap} (record { config = c; tuples = s }) (record { config = d; tuples = t })
same_snap c d s t p q = cc

-- ---- the rows at the next revision, before a commit

module _ (w : Written) (sound : IsSound w) where
  span_at : (l : TupleSpan) → In l w.spans → IsSpan w.floor w.newest l
  span_at l i = all_in (IsSpan w.floor w.newest) w.spans sound.spans_are l i

  removed_at : (l : TupleSpan) → In l w.spans → l.removed ≤ w.newest
  removed_at l i = by_end (span_at l i).ends
    where
      by_end : (l.removed ≡ 0) ⊎ ((l.added < l.removed) × (w.floor < l.removed) × (l.removed ≤ w.newest)) → l.removed ≤ w.newest
      by_end (inl z) = omega (arith, z)
      by_end (inr e) = e.2

  pub unmoved_next : (l : TupleSpan) → In l w.spans → is_moved (w.newest + 1) l ≡ false
  unmoved_next l i =
      let begun = (span_at l i).begun in let removed = removed_at l i in
      or_from (l.added == (w.newest + 1)) (l.removed == (w.newest + 1)) (ne_eqb l.added (w.newest + 1) (λ e. omega (arith, e, begun))) (ne_eqb l.removed (w.newest + 1) (λ e. omega (arith, e, removed)))

  pub alive_onwards : (q : Tuple) → list_any (is_of q (is_alive (w.newest + 1))) w.spans ≡ list_any (is_of q (is_alive w.newest)) w.spans
  alive_onwards q = any_same (is_of q (is_alive (w.newest + 1))) (is_of q (is_alive w.newest)) w.spans (λ l i. ap (λ b. is_same_tuple q l.tuple && b) (alive_still w.newest l (unmoved_next l i)))

  pub no_config : config_at (w.newest + 1) w.configs ≡ None
  no_config = none w.configs sound.configs_are
    where
      none : (cs : List ConfigAt) → All (IsConfigAt w.newest) cs → config_at (w.newest + 1) cs ≡ None
      none [] h = refl
      none (c ∷ cs) h =
          let begun = (All-head (IsConfigAt w.newest) c cs h).begun in
          ap (λ b. cond b (Some c.config) (config_at (w.newest + 1) cs)) (ne_eqb c.rev (w.newest + 1) (λ e. omega (arith, e, begun))) ∙ none cs (All-tail (IsConfigAt w.newest) c cs h)

  config_onwards : config_up_to (w.newest + 1) w.configs ≡ config_up_to w.newest w.configs
  config_onwards = ap (λ (l : ConfigAt). l.config) (last_still w.newest w.configs no_config)

  pub newest_is : newest (history_of w) ≡ w.newest
  newest_is = let n = commits_length w (w.newest - w.floor) w.floor in let o = sound.order in omega (arith, n, o)

  pub upto : w.floor + (w.newest - w.floor) ≡ w.newest
  upto = let o = sound.order in omega (arith, o)

  pub one_more : (w.newest + 1) - w.floor ≡ suc (w.newest - w.floor)
  one_more = let o = sound.order in omega (arith, o)

  pub stand_onwards : Stand w.floor (w.newest + 1) w.spans
  stand_onwards = record { are = All-weaker (IsSpan w.floor w.newest) (IsSpan w.floor (w.newest + 1)) later w.spans sound.spans_are; apart = sound.apart }
    where
      later : (l : TupleSpan) → IsSpan w.floor w.newest l → IsSpan w.floor (w.newest + 1) l
      later l span = record { spelled = span.spelled; begins = span.begins; begun = more span.begun; ends = by_end span.ends }
        where
          more : l.added ≤ w.newest → l.added ≤ w.newest + 1
          more h = omega (arith, h)

          by_end : (l.removed ≡ 0) ⊎ ((l.added < l.removed) × (w.floor < l.removed) × (l.removed ≤ w.newest)) → (l.removed ≡ 0) ⊎ ((l.added < l.removed) × (w.floor < l.removed) × (l.removed ≤ w.newest + 1))
          by_end (inl z) = inl z
          by_end (inr e) = let m = e.2 in inr (e.0, e.1, omega (arith, m))

  pub configs_onwards : All (IsConfigAt (w.newest + 1)) w.configs
  configs_onwards = All-weaker (IsConfigAt w.newest) (IsConfigAt (w.newest + 1)) later w.configs sound.configs_are
    where
      later : (c : ConfigAt) → IsConfigAt w.newest c → IsConfigAt (w.newest + 1) c
      later c h = record { valid = h.valid; begins = h.begins; begun = more h.begun }
        where
          more : c.rev ≤ w.newest → c.rev ≤ w.newest + 1
          more h = omega (arith, h)

  held_config : (newest_of (history_of w)).held.config ≡ config_up_to w.newest w.configs
  held_config = ap (λ (s : Snap). s.config) (held_newest w (whole_of w sound))

  pub held_tuples : (newest_of (history_of w)).held.tuples ≡ tuples_of (is_alive w.newest) w.spans
  held_tuples = ap (λ (s : Snap). s.tuples) (held_newest w (whole_of w sound))

  pub admitted_onwards : (config : Configured) → Admitted config w.newest w.spans → Admitted config (w.newest + 1) w.spans
  admitted_onwards config h = all_from (λ l. is_alive (w.newest + 1) l ≡ true → admits config l.tuple ≡ true) w.spans
      (λ l i a. all_in (λ l. is_alive w.newest l ≡ true → admits config l.tuple ≡ true) w.spans h l i (sym (alive_still w.newest l (unmoved_next l i)) ∙ a))

  -- ---- events

  abbrev pub with_tuples : List Event → Written
  with_tuples es = record { number = w.number; floor = w.floor; newest = w.newest + 1; spans = with_events (w.newest + 1) es w.spans; configs = w.configs }

  module _ (es : List Event) (spelled : (e : Event) → In e es → IsTuple e.tuple) (next : IsNext (history_of w) (kinds.Tuples es)) where
    acc : Accepted (newest_of (history_of w)) es
    acc = accepted (newest_of (history_of w)) es next

    above : w.floor < w.newest + 1
    above = let o = sound.order in omega (arith, o)

    coming : Coming w.floor (w.newest + 1) w.spans es
    coming = record {
      stand = stand_onwards;
      spelled = spelled;
      fresh = λ e i. any_none (λ l. is_same_tuple e.tuple l.tuple && (l.added == (w.newest + 1))) w.spans
          (λ l j. and_right (is_same_tuple e.tuple l.tuple) (l.added == (w.newest + 1)) (or_parts (l.added == (w.newest + 1)) (l.removed == (w.newest + 1)) (unmoved_next l j)).0);
      there = λ e i del. alive_onwards e.tuple ∙ sym (contains_of (is_alive w.newest) w.spans e.tuple) ∙ ap (λ s. set.contains s e.tuple) (sym held_tuples) ∙ acc.there e i del;
      once = acc.once;
    }

    -- what the revision brings
    put_is : (e : Event) → In e es → is_put_at (w.newest + 1) (with_events (w.newest + 1) es w.spans) e.tuple ≡ puts e.kind
    put_is e i =
        put_all (w.newest + 1) w.spans es e.tuple
        ∙ ap (λ b. list_any (λ f. is_same_tuple e.tuple f.tuple && puts f.kind) es || b) (coming.fresh e i)
        ∙ or_false (list_any (λ f. is_same_tuple e.tuple f.tuple && puts f.kind) es)
        ∙ same_bool _ _ (λ h. by_found (found (λ f. is_same_tuple e.tuple f.tuple && puts f.kind) es h))
        (λ h. any_in (λ f. is_same_tuple e.tuple f.tuple && puts f.kind) es e i (and_from (is_same_tuple e.tuple e.tuple) (puts e.kind) (itself e.tuple) h))
      where
        or_false : (b : Bool) → (b || false) ≡ b
        or_false true = refl
        or_false false = refl

        by_found : (f : Event) × In f es × ((is_same_tuple e.tuple f.tuple && puts f.kind) ≡ true) → puts e.kind ≡ true
        by_found (f, j, h) =
            let p = and_parts (is_same_tuple e.tuple f.tuple) (puts f.kind) h in
            by_pair p.0 p.1 (pair_in are_other (λ a b. ap not (same_turned a.tuple b.tuple)) es acc.once e f i j)
          where
            by_pair : is_same_tuple e.tuple f.tuple ≡ true → puts f.kind ≡ true → (e ≡ f) ⊎ (are_other e f ≡ true) → puts e.kind ≡ true
            by_pair same put (inl is) = ap (λ (x : Event). puts x.kind) is ∙ put
            by_pair same put (inr other) = absurd (true≢false (sym same ∙ not-true (is_same_tuple e.tuple f.tuple) other))

    tuples_moved : tuples_of (is_moved (w.newest + 1)) (with_events (w.newest + 1) es w.spans) ≡ set.from_list (map (λ e. e.tuple) es)
    tuples_moved = same_tuples _ _ (λ q.
        contains_of (is_moved (w.newest + 1)) (with_events (w.newest + 1) es w.spans) q
        ∙ moved_all w.floor (w.newest + 1) w.spans es q above coming
        ∙ ap (λ b. list_any (λ e. is_same_tuple q e.tuple) es || b) (any_none (is_of q (is_moved (w.newest + 1))) w.spans (λ l i. and_right (is_same_tuple q l.tuple) (is_moved (w.newest + 1) l) (unmoved_next l i)))
        ∙ or_false (list_any (λ e. is_same_tuple q e.tuple) es)
        ∙ sym (any_map (λ (e : Event). e.tuple) (eq_by_cmp tuple_cmp q) es)
        ∙ sym (contains_from_list (map (λ e. e.tuple) es) q))
      where
        or_false : (b : Bool) → (b || false) ≡ b
        or_false true = refl
        or_false false = refl

    map_back : (f : Tuple → Event) (xs : List Event) → ((e : Event) → In e xs → f e.tuple ≡ e) → map f (map (λ e. e.tuple) xs) ≡ xs
    map_back f [] h = refl
    map_back f (x ∷ xs) h = ap (λ y. y ∷ map f (map (λ e. e.tuple) xs)) (h x (inl refl)) ∙ ap (λ ys. x ∷ ys) (map_back f xs (λ y i. h y (inr i)))

    events_now : events_at (w.newest + 1) (with_events (w.newest + 1) es w.spans) ≡ es
    events_now =
        ap (λ s. map (event_at (w.newest + 1) (with_events (w.newest + 1) es w.spans)) (set.items s)) tuples_moved
        ∙ ap (map (event_at (w.newest + 1) (with_events (w.newest + 1) es w.spans))) (items_from_list (map (λ e. e.tuple) es) acc.sorted)
        ∙ map_back (event_at (w.newest + 1) (with_events (w.newest + 1) es w.spans)) es (λ e i. ap (λ (k : EventKind). record { tuple = e.tuple; kind = k }) (ap (λ b. cond b Put Del) (put_is e i) ∙ kind_back e.kind))
      where
        kind_back : (k : EventKind) → cond (puts k) Put Del ≡ k
        kind_back Put = refl
        kind_back Del = refl

    events_before : (at : ℕ) → 0 < at → at ≤ w.newest → events_at at (with_events (w.newest + 1) es w.spans) ≡ events_at at w.spans
    events_before at some high =
        ap (λ s. map (event_at at (with_events (w.newest + 1) es w.spans)) (set.items s))
        (same_tuples _ (tuples_of (is_moved at) w.spans) (λ q. contains_of (is_moved at) (with_events (w.newest + 1) es w.spans) q ∙ moved_before (w.newest + 1) at (omega arith) w.spans es q some ∙ sym (contains_of (is_moved at) w.spans q)))
        ∙ map_same (set.items (tuples_of (is_moved at) w.spans))
      where
        map_same : (ts : List Tuple) → map (event_at at (with_events (w.newest + 1) es w.spans)) ts ≡ map (event_at at w.spans) ts
        map_same [] = refl
        map_same (t ∷ ts) = ap (λ b. record { tuple = t; kind = cond b Put Del } ∷ map (event_at at (with_events (w.newest + 1) es w.spans)) ts) (put_before (w.newest + 1) at (omega arith) w.spans es t) ∙ ap (λ xs. event_at at w.spans t ∷ xs) (map_same ts)

    base_same : tuples_of (is_alive w.floor) (with_events (w.newest + 1) es w.spans) ≡ tuples_of (is_alive w.floor) w.spans
    base_same = same_tuples _ _ (λ q. contains_of (is_alive w.floor) (with_events (w.newest + 1) es w.spans) q ∙ alive_before (w.newest + 1) w.floor above w.spans es q ∙ sym (contains_of (is_alive w.floor) w.spans q))

    pub tuples_history : history_of (with_tuples es) ≡ with_commit (history_of w) (kinds.Tuples es)
    tuples_history = same_history w.number w.floor _ _ _ _ (same_snap _ _ _ _ refl base_same)
        (ap (commits_above (with_tuples es) w.floor) one_more
        ∙ commits_push (with_tuples es) w (w.newest - w.floor) w.floor (λ at low high. ap (commit_of (config_at at w.configs)) (events_before at (omega arith) (small at high)))
        ∙ ap (λ c. commits_above w w.floor (w.newest - w.floor) ++ c ∷ []) now_is)
      where
        small : (at : ℕ) → at ≤ w.floor + (w.newest - w.floor) → at ≤ w.newest
        small at high = let u = upto in omega (arith, u, high)

        now_is : commit_at (with_tuples es) (w.floor + (w.newest - w.floor) + 1) ≡ kinds.Tuples es
        now_is = ap (λ n. commit_at (with_tuples es) (n + 1)) upto ∙ ap (λ o. commit_of o (events_at (w.newest + 1) (with_events (w.newest + 1) es w.spans))) no_config ∙ ap kinds.Tuples events_now

    moved_some : list_any (is_moved (w.newest + 1)) (with_events (w.newest + 1) es w.spans) ≡ true
    moved_some = by_first es acc.some (λ e i. moved_all w.floor (w.newest + 1) w.spans es e.tuple above coming ∙ or_left _ _ (any_in (λ f. is_same_tuple e.tuple f.tuple) es e i (itself e.tuple)))
      where
        by_first : (fs : List Event) → 0 < length fs → ((e : Event) → In e fs → list_any (is_of e.tuple (is_moved (w.newest + 1))) (with_events (w.newest + 1) es w.spans) ≡ true)
            → list_any (is_moved (w.newest + 1)) (with_events (w.newest + 1) es w.spans) ≡ true
        by_first [] some h = absurd (omega (arith, some))
        by_first (e ∷ fs) some h = by_found (found (is_of e.tuple (is_moved (w.newest + 1))) (with_events (w.newest + 1) es w.spans) (h e (inl refl)))
          where
            by_found : (l : TupleSpan) × In l (with_events (w.newest + 1) es w.spans) × (is_of e.tuple (is_moved (w.newest + 1)) l ≡ true) → list_any (is_moved (w.newest + 1)) (with_events (w.newest + 1) es w.spans) ≡ true
            by_found (l, i, m) = any_in (is_moved (w.newest + 1)) (with_events (w.newest + 1) es w.spans) l i (and_parts (is_same_tuple e.tuple l.tuple) (is_moved (w.newest + 1) l) m).1

    whole_now : (at : ℕ) → w.floor < at → at ≤ w.newest + 1 → brings_one (with_tuples es) at ≡ true
    whole_now at low high = by_case (cases_lt w.newest at)
      where
        by_case : (w.newest < at) ⊎ (at ≤ w.newest) → brings_one (with_tuples es) at ≡ true
        by_case (inr old) = ap (is_one (config_at at w.configs)) (any_moved_before (w.newest + 1) at (omega arith) w.spans es (omega arith)) ∙ sound.whole at low old
        by_case (inl new) = let e : at ≡ w.newest + 1 = omega arith in
            ap (brings_one (with_tuples es)) e ∙ ap (λ o. is_one o (list_any (is_moved (w.newest + 1)) (with_events (w.newest + 1) es w.spans))) no_config ∙ moved_some

    admitted_after : (at : ℕ) → w.floor ≤ at → at ≤ w.newest + 1 → Admitted (config_up_to at w.configs) at (with_events (w.newest + 1) es w.spans)
    admitted_after at low high = by_case (cases_lt w.newest at)
      where
        now : Admitted (config_up_to (w.newest + 1) w.configs) (w.newest + 1) (with_events (w.newest + 1) es w.spans)
        now = subst (λ c. Admitted c (w.newest + 1) (with_events (w.newest + 1) es w.spans)) (sym config_onwards)
            (admitted_all (config_up_to w.newest w.configs) w.floor (w.newest + 1) w.spans es above coming
            (λ e i. ap (λ c. admits c e.tuple) (sym held_config) ∙ acc.admitted e i)
            (admitted_onwards (config_up_to w.newest w.configs) (sound.admitted w.newest sound.order (omega arith))))

        by_case : (w.newest < at) ⊎ (at ≤ w.newest) → Admitted (config_up_to at w.configs) at (with_events (w.newest + 1) es w.spans)
        by_case (inr old) = admitted_before (w.newest + 1) at (omega arith) (config_up_to at w.configs) w.spans es (sound.admitted at low old)
        by_case (inl new) = let e : w.newest + 1 ≡ at = omega arith in subst (λ n. Admitted (config_up_to n w.configs) n (with_events (w.newest + 1) es w.spans)) e now

    pub tuples_sound : IsSound (with_tuples es)
    tuples_sound = record {
      number_is = sound.number_is;
      order = let o = sound.order in omega (arith, o);
      revs = let r = acc.revs in let n = newest_is in omega (arith, r, n);
      spans_are = (stand_all w.floor (w.newest + 1) w.spans es above coming).are;
      apart = (stand_all w.floor (w.newest + 1) w.spans es above coming).apart;
      configs_are = configs_onwards;
      distinct = sound.distinct;
      whole = whole_now;
      admitted = admitted_after;
      rows = subst (λ r. spans_of r ≤ MAX_ROWS) (sym tuples_history) rows_now;
      tuples = subst (λ r. set.len (newest_of r).held.tuples ≤ MAX_TUPLES) (sym tuples_history) tuples_now;
    }
      where
        rows_now : spans_of (with_commit (history_of w) (kinds.Tuples es)) ≤ MAX_ROWS
        rows_now = let r = rows_push (history_of w).commits (kinds.Tuples es) in let a = acc.rows in omega (arith, r, a)

        tuples_now : set.len (newest_of (with_commit (history_of w) (kinds.Tuples es))).held.tuples ≤ MAX_TUPLES
        tuples_now = subst (λ (s : Snap). set.len s.tuples ≤ MAX_TUPLES) (sym (after_push (history_of w).base (history_of w).commits (kinds.Tuples es))) acc.tuples
