-- What was read of the rows of a history is that history.
use Rattle.std.proofs.Common.{◌≡◌, ℕ, ◌+◌, ◌<◌, ◌≤◌, ◌^◌, List, [], length, get_or, refl, sym, ap, subst, ◌∙◌, inl, inr, arith}
use Rattle.std.specs.Prelude.{Bool, true, false, cond, ◌&&◌, ◌||◌, ◌==◌, ◌⊎◌, map, All, codes, bytes_eq, nat_le, nat_lt, IsPermutation, IsSorted}
use Rattle.std.specs.List.{list_any, AllAdjacentBelow}
use Rattle.std.specs.Ordering.{is_lt}
use Rattle.std.specs.declared.cmp.Ordering.{Ordering}
use Rattle.std.proofs.lemmas.Bool.{and_parts, ltb-true, leb-true, eq-eqb, eqb-true}
use Rattle.std.proofs.lemmas.List.Elements.{All-map}
use Rattle.std.proofs.lemmas.List.Sorted.{IsPermutation-sym, IsPermutation-trans}
use Rattle.std.proofs.lemmas.Map.Keys.{ge_from_not_lt}
use Rattle.std.proofs.lemmas.List.{length-map}
use Rattle.std.proofs.Math.ListN.{get_or-map}
use Rattle.std.proofs.lemmas.Slice.Eq.{bytes_eq-Decides}
use Rattle.names.specs.declared.limits.TheConstants.{MAX_REV, MAX_ROWS, MAX_TUPLES}
use Rattle.names.specs.Spelling.{IsTuple}
use Rattle.meaning.specs.Admits.{admits}
use Rattle.meaning.specs.TupleSet as set
use Rattle.rows.specs.Retained.{newest_of, spans_of}
use Rattle.sqlite_tables.specs.Tables.{Span, ConfigRow, Entry, Contents, same_tuple}
use Rattle.sqlite_tables.specs.Stored.{span_in, config_row_in, entry_in, config_cmp, Loads, IsInOrder}
use Rattle.sqlite_tables.specs.declared.stored.Stored.{Stored}
use Rattle.sqlite_tables.specs.declared.stored.StoredSpan.{StoredSpan}
use Rattle.sqlite_tables.specs.declared.stored.StoredConfig.{StoredConfig}
use Rattle.sqlite_tables.specs.declared.stored.StoredEntry.{StoredEntry}
use Rattle.store.specs.Written.{TupleSpan, ConfigAt, Written, IsSpan, IsConfigAt, IsSound, IsWritten, Pairwise, is_alive, is_moved, is_one, is_before, are_apart, are_distinct, brings_one, config_at, last_up_to, config_up_to, history_of, span_of, config_row_of, entry, entries_of}
use Rattle.store.specs.inside.Reading.{as_span, as_config, as_written, IsHead}
use Rattle.store.specs.Refused.{IsOfSpan, IsOfConfig, AreOfHead, AreListed, IsListed, IsOfHistory}
use Rattle.store.specs.declared.parts.ReadSpan.{ReadSpan}
use Rattle.store.specs.declared.parts.ReadConfig.{ReadConfig}
use Rattle.store.specs.declared.parts.Head.{Head}
use Rattle.store.proofs.Picking.{In, same_bool, all_in, all_from}
use Rattle.store.proofs.Moving.{same_self}
use Rattle.store.proofs.Spellings.{same_texts}
use Rattle.store.proofs.Alphabetical.{entries_are}
use Rattle.store.proofs.Once.{HasRows, rows_in, spans_in, configs_in, entries_in, any_both, in_permuted, in_map, in_unmap, floor_is, newest_is, number_is, same_at, same_last, history_once}
use Rattle.store.proofs.Permuted.{pairwise_permuted, pairwise_seen, pairwise_unseen}

-- ---- spans apart, by their texts

or_turned : (x y : Bool) → (x || y) ≡ (y || x)
or_turned true true = refl
or_turned true false = refl
or_turned false true = refl
or_turned false false = refl

bytes_turned : (a b : List ℕ) → bytes_eq a b ≡ bytes_eq b a
bytes_turned a b = same_bool (bytes_eq a b) (bytes_eq b a)
    (λ h. (bytes_eq-Decides b a).1 (sym ((bytes_eq-Decides a b).0 h))) (λ h. (bytes_eq-Decides a b).1 (sym ((bytes_eq-Decides b a).0 h)))

tuples_turned : (a b : Span) → same_tuple a b ≡ same_tuple b a
tuples_turned a b =
    ap (λ n. n && (bytes_eq a.object b.object && (bytes_eq a.relation b.relation && bytes_eq a.subject b.subject))) (bytes_turned a.namespace b.namespace)
    ∙ ap (λ o. bytes_eq b.namespace a.namespace && (o && (bytes_eq a.relation b.relation && bytes_eq a.subject b.subject))) (bytes_turned a.object b.object)
    ∙ ap (λ r. bytes_eq b.namespace a.namespace && (bytes_eq b.object a.object && (r && bytes_eq a.subject b.subject))) (bytes_turned a.relation b.relation)
    ∙ ap (λ s. bytes_eq b.namespace a.namespace && (bytes_eq b.object a.object && (bytes_eq b.relation a.relation && s))) (bytes_turned a.subject b.subject)

abbrev row_before : Span → Span → Bool
row_before a b = nat_lt 0 a.removed && nat_le a.removed b.added

abbrev rows_apart : Span → Span → Bool
rows_apart a b = cond (same_tuple b a) (row_before a b || row_before b a) true

rows_turned : (a b : Span) → rows_apart a b ≡ rows_apart b a
rows_turned a b =
    ap (λ s. cond s (row_before a b || row_before b a) true) (tuples_turned b a) ∙ ap (λ o. cond (same_tuple a b) o true) (or_turned (row_before a b) (row_before b a))

by_rows : (a b : TupleSpan) → IsTuple a.tuple → IsTuple b.tuple → are_apart a b ≡ rows_apart (span_of a) (span_of b)
by_rows a b p q = ap (λ s. cond s (is_before a b || is_before b a) true) (sym (same_texts b a.tuple q p))

never_before_itself : (floor newest : ℕ) (l : TupleSpan) → IsSpan floor newest l → is_before l l ≡ false
never_before_itself floor newest l span = by_test (is_before l l) refl
  where
    never : 0 < l.removed → l.removed ≤ l.added → (l.removed ≡ 0) ⊎ ((l.added < l.removed) × (floor < l.removed) × (l.removed ≤ newest)) → ⊥
    never s t (inl z) = omega (arith, s, z)
    never s t (inr z) = let u = z.0 in omega (arith, t, u)

    by_test : (b : Bool) → is_before l l ≡ b → is_before l l ≡ false
    by_test true e = let p = and_parts (nat_lt 0 l.removed) (nat_le l.removed l.added) e in absurd (never (ltb-true 0 l.removed p.0) (leb-true l.removed l.added p.1) span.ends)
    by_test false e = e

not_apart_itself : (floor newest : ℕ) (l : TupleSpan) → IsSpan floor newest l → are_apart l l ≡ false
not_apart_itself floor newest l span =
    ap (λ s. cond s (is_before l l || is_before l l) true) (same_self l.tuple) ∙ ap (λ b. b || b) (never_before_itself floor newest l span)

module _ (v w : Written) (rows_v : HasRows v) (rows_w : HasRows w) (perm : IsPermutation (map span_of w.spans) (map span_of v.spans)) where
  tuple_w : (l : TupleSpan) → In l w.spans → IsTuple l.tuple
  tuple_w l i = (all_in (IsSpan w.floor w.newest) w.spans rows_w.spans_are l i).spelled

  tuple_v : (l : TupleSpan) → In l v.spans → IsTuple l.tuple
  tuple_v l i = (all_in (IsSpan v.floor v.newest) v.spans rows_v.spans_are l i).spelled

  apart_read : Pairwise are_apart w.spans → Pairwise are_apart v.spans
  apart_read apart =
      pairwise_unseen span_of are_apart rows_apart v.spans (λ a b i j. by_rows a b (tuple_v a i) (tuple_v b j))
      (pairwise_permuted rows_apart rows_turned (map span_of w.spans) (map span_of v.spans) itself perm
      (pairwise_seen span_of are_apart rows_apart w.spans (λ a b i j. by_rows a b (tuple_w a i) (tuple_w b j)) apart))
    where
      itself : (x : Span) → In x (map span_of w.spans) → rows_apart x x ≡ false
      itself x i = by_span (in_unmap span_of w.spans x i)
        where
          by_span : (l : TupleSpan) × In l w.spans × (x ≡ span_of l) → rows_apart x x ≡ false
          by_span (l, j, e) = ap (λ y. rows_apart y y) e ∙ sym (by_rows l l (tuple_w l j) (tuple_w l j)) ∙ not_apart_itself w.floor w.newest l (all_in (IsSpan w.floor w.newest) w.spans rows_w.spans_are l j)

-- ---- configurations of distinct revisions, by their rows

abbrev rows_distinct : ℕ → ConfigRow → ConfigRow → Bool
rows_distinct floor a b = cond (a.rev == b.rev) false (nat_lt floor a.rev || nat_lt floor b.rev)

revs_turned : (m n : ℕ) → (m == n) ≡ (n == m)
revs_turned m n = same_bool (m == n) (n == m) (λ h. eq-eqb n m (sym (eqb-true m n h))) (λ h. eq-eqb m n (sym (eqb-true n m h)))

distinct_turned : (floor : ℕ) (a b : ConfigRow) → rows_distinct floor a b ≡ rows_distinct floor b a
distinct_turned floor a b =
    ap (λ s. cond s false (nat_lt floor a.rev || nat_lt floor b.rev)) (revs_turned a.rev b.rev) ∙ ap (λ o. cond (b.rev == a.rev) false o) (or_turned (nat_lt floor a.rev) (nat_lt floor b.rev))

distinct_read : (floor : ℕ) (cs ds : List ConfigAt) → IsPermutation (map config_row_of cs) (map config_row_of ds) → Pairwise (are_distinct floor) cs → Pairwise (are_distinct floor) ds
distinct_read floor cs ds perm distinct =
    pairwise_unseen config_row_of (are_distinct floor) (rows_distinct floor) ds (λ a b i j. refl)
    (pairwise_permuted (rows_distinct floor) (distinct_turned floor) (map config_row_of cs) (map config_row_of ds)
    (λ x i. ap (λ s. cond s false (nat_lt floor x.rev || nat_lt floor x.rev)) (eq-eqb x.rev x.rev refl)) perm
    (pairwise_seen config_row_of (are_distinct floor) (rows_distinct floor) cs (λ a b i j. refl) distinct))

-- ---- the history

pub sound_read : (h : Contents) (v w : Written) → IsWritten h v → IsWritten h w → HasRows v → IsSound w → IsSound v
sound_read h v w is_v is_w rows_v sound_w = record {
  number_is = subst (λ n. (1 ≤ n) × (n < 2 ^ 63)) (sym number) sound_w.number_is;
  order = subst (λ n. n ≤ v.newest) (sym floor) (subst (λ n. w.floor ≤ n) (sym newest) sound_w.order);
  revs = subst (λ n. n ≤ MAX_REV) (sym newest) sound_w.revs;
  spans_are = rows_v.spans_are;
  apart = apart_read v w rows_v rows_w (IsPermutation-trans _ _ _ (IsPermutation-sym _ _ is_w.spans) is_v.spans) sound_w.apart;
  configs_are = rows_v.configs_are;
  distinct = subst (λ n. Pairwise (are_distinct n) v.configs) (sym floor)
      (distinct_read w.floor w.configs v.configs (IsPermutation-trans _ _ _ (IsPermutation-sym _ _ is_w.configs) is_v.configs) sound_w.distinct);
  whole = λ rev low high. same_one rev ∙ sound_w.whole rev (subst (λ n. n < rev) floor low) (subst (λ n. rev ≤ n) newest high);
  admitted = λ rev low high. all_from (λ l. is_alive rev l ≡ true → admits (config_up_to rev v.configs) l.tuple ≡ true) v.spans (λ l i alive.
      ap (λ (c : ConfigAt). admits c.config l.tuple) (same_up_to rev)
      ∙ all_in (λ l. is_alive rev l ≡ true → admits (config_up_to rev w.configs) l.tuple ≡ true) w.spans (sound_w.admitted rev (subst (λ n. n ≤ rev) floor low) (subst (λ n. rev ≤ n) newest high)) l (f l i) alive);
  rows = subst (λ r. spans_of r ≤ MAX_ROWS) (sym same) sound_w.rows;
  tuples = subst (λ r. set.len (newest_of r).held.tuples ≤ MAX_TUPLES) (sym same) sound_w.tuples;
}
  where
    rows_w : HasRows w
    rows_w = rows_in w sound_w

    f : (l : TupleSpan) → In l v.spans → In l w.spans
    f = spans_in h v w is_v is_w rows_v rows_w

    b : (l : TupleSpan) → In l w.spans → In l v.spans
    b = spans_in h w v is_w is_v rows_w rows_v

    cf : (c : ConfigAt) → In c v.configs → In c w.configs
    cf = configs_in h v w is_v is_w rows_v rows_w

    cb : (c : ConfigAt) → In c w.configs → In c v.configs
    cb = configs_in h w v is_w is_v rows_w rows_v

    entries : (e : Entry) → In e (entries_of v) → In e (entries_of w)
    entries = entries_in h v w is_v is_w rows_v rows_w

    floor : v.floor ≡ w.floor
    floor = floor_is v.floor w (entries (entry (codes "floor") v.floor) (inl refl))

    newest : v.newest ≡ w.newest
    newest = newest_is v.newest w (entries (entry (codes "newest") v.newest) (inr (inr (inl refl))))

    number : v.number ≡ w.number
    number = number_is v.number w (entries (entry (codes "store") v.number) (inr (inr (inr (inl refl)))))

    same : history_of v ≡ history_of w
    same = history_once h v w is_v rows_v is_w sound_w

    same_one : (rev : ℕ) → brings_one v rev ≡ brings_one w rev
    same_one rev =
        ap (λ o. is_one o (list_any (is_moved rev) v.spans)) (same_at w.floor rev v.configs w.configs sound_w.distinct cf cb)
        ∙ ap (is_one (config_at rev w.configs)) (any_both (is_moved rev) v.spans w.spans f b)

    same_up_to : (rev : ℕ) → last_up_to rev v.configs ≡ last_up_to rev w.configs
    same_up_to rev = same_last w.floor rev v.configs w.configs sound_w.distinct cf cb (λ c i. (all_in (IsConfigAt w.newest) w.configs sound_w.configs_are c i).begins)

-- ---- what is read

sorted_from : {A B : Type 0} (cmp : B → B → Ordering) (f : A → B) (xs : List A) → IsSorted cmp (map f xs) → IsSorted (λ a b. cmp (f a) (f b)) xs
sorted_from cmp f xs sorted = λ k d low lt.
    ap (λ y. is_lt (cmp y (f (get_or xs k d)))) (sym (get_or-map f xs (k + 1) d))
    ∙ ap (λ y. is_lt (cmp (get_or (map f xs) (k + 1) (f d)) y)) (sym (get_or-map f xs k d))
    ∙ sorted k (f d) low (let len = length-map xs f in omega (arith, len, lt))

module _ (s : Stored) (order : IsInOrder s) (h : Contents) (w : Written) (loads : Loads h s) (is_w : IsWritten h w) (sound_w : IsSound w) where
  entries_read : map entry_in s.entries.items ≡ entries_of w
  entries_read = entries_are w (map entry_in s.entries.items) order.entries (IsPermutation-trans _ _ _ (IsPermutation-sym _ _ is_w.entries) loads.entries)

  head_read : AreOfHead s.entries.items
  head_read = (
    record { number = w.number; floor = w.floor; newest = w.newest },
    record { numbered = sound_w.number_is.0; signed = sound_w.number_is.1; order = sound_w.order; revs = sound_w.revs },
    entries_read,
  )

  module _ (head : Head) (is : map entry_in s.entries.items ≡ entries_of (as_written head [] [])) where
    entry_there : (e : Entry) → In e (entries_of (as_written head [] [])) → In e (entries_of w)
    entry_there e = subst (In e) (sym is ∙ entries_read)

    floor_read : w.floor ≡ head.floor
    floor_read = sym (floor_is head.floor w (entry_there (entry (codes "floor") head.floor) (inl refl)))

    newest_read : w.newest ≡ head.newest
    newest_read = sym (newest_is head.newest w (entry_there (entry (codes "newest") head.newest) (inr (inr (inl refl)))))

    configs_read : All (IsOfConfig head.newest) s.configs.items
    configs_read = all_from (IsOfConfig head.newest) s.configs.items (λ c i. by_row c (in_unmap config_row_of w.configs (config_row_in c) (in_permuted _ _ (config_row_in c) (IsPermutation-trans _ _ _ (IsPermutation-sym _ _ loads.configs) is_w.configs) (in_map config_row_in s.configs.items c i))))
      where
        by_row : (c : StoredConfig) → (d : ConfigAt) × In d w.configs × (config_row_in c ≡ config_row_of d) → IsOfConfig head.newest c
        by_row c (d, j, e) = (d, subst (λ n. IsConfigAt n d) newest_read (all_in (IsConfigAt w.newest) w.configs sound_w.configs_are d j), sym e)

    spans_read : All (IsOfSpan head.floor head.newest) s.spans.items
    spans_read = all_from (IsOfSpan head.floor head.newest) s.spans.items (λ l i. by_row l (in_unmap span_of w.spans (span_in l) (in_permuted _ _ (span_in l) (IsPermutation-trans _ _ _ (IsPermutation-sym _ _ loads.spans) is_w.spans) (in_map span_in s.spans.items l i))))
      where
        by_row : (l : StoredSpan) → (m : TupleSpan) × In m w.spans × (span_in l ≡ span_of m) → IsOfSpan head.floor head.newest l
        by_row l (m, j, e) = (m, subst (λ n. IsSpan n head.newest m) floor_read (subst (λ n. IsSpan w.floor n m) newest_read (all_in (IsSpan w.floor w.newest) w.spans sound_w.spans_are m j)), sym e)

    module _ (spans : List ReadSpan) (configs : List ReadConfig) (dated : map config_row_of (map as_config configs) ≡ map config_row_in s.configs.items) (perm : IsPermutation (map span_in s.spans.items) (map span_of (map as_span spans)))
        (spans_are : All (λ l. IsSpan head.floor head.newest (as_span l)) spans) (configs_are : All (λ c. IsConfigAt head.newest (as_config c)) configs) where
      is_read : IsWritten h (as_written head spans configs)
      is_read = record {
        spans = IsPermutation-trans _ _ _ loads.spans perm;
        configs = subst (λ l. IsPermutation h.configs l) (sym dated) loads.configs;
        entries = subst (λ l. IsPermutation h.entries l) is loads.entries;
      }

      all_read : IsSound (as_written head spans configs)
      all_read = sound_read h (as_written head spans configs) w is_read is_w
          (record { spans_are = All-map (IsSpan head.floor head.newest) as_span spans spans_are; configs_are = All-map (IsConfigAt head.newest) as_config configs configs_are }) sound_w

      revs_read : AllAdjacentBelow (λ (a b : ReadConfig). a.rev ≤ b.rev) configs (length configs)
      revs_read = λ k d lt. ge_from_not_lt _ _ (by_rev k d (omega arith) lt)
        where
          by_rev : IsSorted (λ (a b : ReadConfig). config_cmp (config_row_of (as_config a)) (config_row_of (as_config b))) configs
          by_rev = sorted_from (λ a b. config_cmp (config_row_of a) (config_row_of b)) as_config configs
              (sorted_from config_cmp config_row_of (map as_config configs) (subst (IsSorted config_cmp) (sym dated) order.configs))

-- ---- what a refusal denies

module _ (s : Stored) (es : List StoredEntry) (same_es : es ≡ s.entries.items) where
  pub head_of : IsOfHistory s → AreOfHead es
  head_of (order, (h, loads, (r, (w, is_w, sound_w, _)))) = subst AreOfHead (sym same_es) (head_read s order h w loads is_w sound_w)

  module _ (head : Head) (is : map entry_in es ≡ entries_of (as_written head [] [])) where
    state_is : map entry_in s.entries.items ≡ entries_of (as_written head [] [])
    state_is = ap (map entry_in) (sym same_es) ∙ is

    pub configs_of : (cs : List StoredConfig) → cs ≡ s.configs.items → IsOfHistory s → All (IsOfConfig head.newest) cs
    configs_of cs same (order, (h, loads, (r, (w, is_w, sound_w, _)))) =
        subst (All (IsOfConfig head.newest)) (sym same) (configs_read s order h w loads is_w sound_w head state_is)

    pub rows_of : (ss : List StoredSpan) → ss ≡ s.spans.items → IsOfHistory s → All (IsOfSpan head.floor head.newest) ss
    rows_of ss same (order, (h, loads, (r, (w, is_w, sound_w, _)))) =
        subst (All (IsOfSpan head.floor head.newest)) (sym same) (spans_read s order h w loads is_w sound_w head state_is)

    pub judged_of : (cs : List StoredConfig) (ss : List StoredSpan) → cs ≡ s.configs.items → ss ≡ s.spans.items → (spans : List ReadSpan) (configs : List ReadConfig)
        → map config_row_of (map as_config configs) ≡ map config_row_in cs → IsPermutation (map span_in ss) (map span_of (map as_span spans))
        → All (λ l. IsSpan head.floor head.newest (as_span l)) spans → All (λ c. IsConfigAt head.newest (as_config c)) configs
        → AllAdjacentBelow (λ a b. IsListed (as_span a) (as_span b)) spans (length spans)
        → IsOfHistory s → AreListed configs spans × IsSound (as_written head spans configs)
    judged_of cs ss same_cs same_ss spans configs dated perm spans_are configs_are listed (order, (h, loads, (r, (w, is_w, sound_w, _)))) =
        let dated_is = dated ∙ ap (map config_row_in) same_cs in
        let perm_is = subst (λ l. IsPermutation (map span_in l) (map span_of (map as_span spans))) same_ss perm in (
          record { tuples = listed; revs = revs_read s order h w loads is_w sound_w head state_is spans configs dated_is perm_is spans_are configs_are },
          all_read s order h w loads is_w sound_w head state_is spans configs dated_is perm_is spans_are configs_are,
        )

-- ---- the state's values

pub at_entry : (es : List StoredEntry) (head : Head) → map entry_in es ≡ entries_of (as_written head [] []) → (k : ℕ) (e : StoredEntry) → e ≡ get_or es k e → entry_in e ≡ get_or (entries_of (as_written head [] [])) k (entry_in e)
at_entry es head same k e is = ap entry_in is ∙ sym (get_or-map entry_in es k e) ∙ ap (λ l. get_or l k (entry_in e)) same

pub head_like : (number floor newest : ℕ) (head : Head) → number ≡ head.number → floor ≡ head.floor → newest ≡ head.newest → IsHead head → IsHead (record { number = number; floor = floor; newest = newest })
head_like number floor newest head p q r is = record {
  numbered = subst (λ n. 1 ≤ n) (sym p) is.numbered;
  signed = subst (λ n. n < 2 ^ 63) (sym p) is.signed;
  order = subst (λ n. n ≤ newest) (sym q) (subst (λ n. head.floor ≤ n) (sym r) is.order);
  revs = subst (λ n. n ≤ MAX_REV) (sym r) is.revs;
}
