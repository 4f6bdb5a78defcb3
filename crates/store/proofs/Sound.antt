-- Rows that pass the tests are a history.
use Rattle.std.proofs.Common.{◌≡◌, ℕ, ◌+◌, ◌-◌, ◌<◌, ◌≤◌, List, [], length, ap, sym, subst, ◌∙◌, true, arith}
use Rattle.std.specs.Prelude.{map, filter, All, IsPermutation}
use Rattle.std.specs.List.Sorted.{IsStrictlySortedBy}
use Rattle.std.proofs.lemmas.List.{length-map}
use Rattle.std.proofs.lemmas.List.Elements.{All-map}
use Rattle.std.proofs.lemmas.List.Sorted.{IsPermutation-trans}
use Rattle.names.specs.declared.limits.TheConstants.{MAX_REV, MAX_ROWS, MAX_TUPLES}
use Rattle.names.specs.Order.{tuple_cmp}
use Rattle.names.specs.declared.tuple.Tuple.{Tuple}
use Rattle.names.specs.declared.commit.Commit.{Commit}
use Rattle.meaning.specs.Config.{Configured}
use Rattle.meaning.specs.TupleSet as set
use Rattle.meaning.specs.History.{rows_of}
use Rattle.meaning.proofs.TupleSets.{len_items, items_from_list}
use Rattle.rows.specs.Ordered.{AreOrdered}
use Rattle.rows.specs.Retained.{Retained, spans_of, IsAdmitted}
use Rattle.rows.specs.Loads.{retained_of, IsWithin}
use Rattle.rows.specs.declared.loaded.Loaded.{Loaded}
use Rattle.sqlite_tables.specs.Tables.{Contents, ConfigRow, Entry}
use Rattle.sqlite_tables.specs.Stored.{span_in, config_row_in, entry_in, Loads}
use Rattle.sqlite_tables.specs.declared.stored.Stored.{Stored}
use Rattle.sqlite_tables.specs.declared.stored.StoredSpan.{StoredSpan}
use Rattle.sqlite_tables.specs.declared.stored.StoredConfig.{StoredConfig}
use Rattle.sqlite_tables.specs.declared.stored.StoredEntry.{StoredEntry}
use Rattle.store.specs.Written.{TupleSpan, Written, IsSpan, IsConfigAt, IsSound, IsHistory, history_of, commits_above, brings_one, is_alive, span_of, config_row_of, entries_of}
use Rattle.store.specs.inside.Reading.{as_span, as_config, as_written, current, IsHead, ArePlaced}
use Rattle.store.specs.declared.parts.ReadSpan.{ReadSpan}
use Rattle.store.specs.declared.parts.ReadConfig.{ReadConfig}
use Rattle.store.specs.declared.parts.Head.{Head}
use Rattle.store.proofs.Apart.{apart, distinct}
use Rattle.store.proofs.CommitRuns.{length_above}
use Rattle.store.proofs.Held.{IsWhole, whole_of}
use Rattle.store.proofs.Ordered.{history_ordered}
use Rattle.store.proofs.Retaining.{AdmitsSpan, history_admitted}
use Rattle.store.proofs.Current.{len_alive, len_current}
use Rattle.store.proofs.Once.{rows_in, history_once}

-- what was built
pub built : (number floor : ℕ) (config g : Configured) (tuples ts : List Tuple) (commits cs : List (Commit Configured)) → config ≡ g → tuples ≡ ts → commits ≡ cs
    → retained_of (record { number = number; floor = floor; config = config; tuples = tuples; commits = commits }) ≡ record { number = number; floor = floor; base = record { config = g; tuples = set.from_list ts }; commits = cs }
built number floor config g tuples ts commits cs p q r =
    ap (λ x. retained_of (record { number = number; floor = floor; config = x; tuples = tuples; commits = commits })) p
    ∙ ap (λ x. retained_of (record { number = number; floor = floor; config = g; tuples = x; commits = commits })) q
    ∙ ap (λ x. retained_of (record { number = number; floor = floor; config = g; tuples = ts; commits = x })) r

len_sorted : (ts : List Tuple) → IsStrictlySortedBy tuple_cmp ts → set.len (set.from_list ts) ≡ length ts
len_sorted ts sorted = len_items (set.from_list ts) ∙ ap length (items_from_list ts sorted)

pub within : (l : Loaded) (w : Written) (n : ℕ) → IsStrictlySortedBy tuple_cmp l.tuples → l.commits ≡ commits_above w l.floor n → l.floor + n ≤ MAX_REV → length l.tuples + rows_of l.commits ≤ MAX_ROWS → IsAdmitted (retained_of l) → AreOrdered l.commits → IsWithin l
within l w n sorted commits revs rows admitted ordered = record {
  ordered = sorted;
  revs = let len = ap length commits ∙ length_above w l.floor n in omega (arith, len, revs);
  rows = let len = len_sorted l.tuples sorted in omega (arith, len, rows);
  admitted = admitted;
  each_ordered = ordered;
}

-- a history has no more spans than it may
pub room_refused : (w : Written) (tuples : List Tuple) (commits : List (Commit Configured)) → tuples ≡ map (λ l. l.tuple) (filter (is_alive w.floor) w.spans) → commits ≡ commits_above w w.floor (w.newest - w.floor)
    → MAX_ROWS < length tuples + rows_of commits → IsSound w → ⊥
room_refused w tuples commits are above more sound =
    let len = len_alive w.floor w.spans sound.apart in
    let same = ap length are ∙ length-map (filter (is_alive w.floor) w.spans) (λ (l : TupleSpan). l.tuple) in
    let rows = ap rows_of above in
    let most = sound.rows in
    omega (arith, len, same, rows, most, more)

-- nor more tuples
pub many_refused : (head : Head) (spans : List ReadSpan) (configs : List ReadConfig) → MAX_TUPLES < current spans → IsSound (as_written head spans configs) → ⊥
many_refused head spans configs many sound =
    let len = len_current head spans configs (whole_of (as_written head spans configs) sound) in
    let most = sound.tuples in
    omega (arith, many, len, most)

-- rows of which each is what a row may be, that are placed, and of which each revision is one commit
module _ (head : Head) (spans : List ReadSpan) (configs : List ReadConfig) (is : IsHead head) (are : All (λ s. IsSpan head.floor head.newest (as_span s)) spans) (placed : ArePlaced head configs spans)
    (whole : (rev : ℕ) → head.floor < rev → rev ≤ head.newest → brings_one (as_written head spans configs) rev ≡ true) where
  rows_are : IsWhole (as_written head spans configs)
  rows_are = record {
    order = is.order;
    spans_are = All-map (IsSpan head.floor head.newest) as_span spans are;
    apart = apart as_span head.floor head.newest spans placed.apart are;
    distinct = distinct as_config head.floor configs placed.distinct;
    whole = whole;
  }

  admitted : (rev : ℕ) → head.floor ≤ rev → rev ≤ head.newest → All (AdmitsSpan (as_written head spans configs) rev) (map as_span spans)
  admitted rev above below = All-map (AdmitsSpan (as_written head spans configs) rev) as_span spans (λ k d lt. placed.admitted k d lt rev above)

  -- each retained revision's tuples are admitted
  pub read_admitted : (r : Retained) → r ≡ history_of (as_written head spans configs) → IsAdmitted r
  read_admitted r same = subst IsAdmitted (sym same) (history_admitted (as_written head spans configs) rows_are admitted)

  -- and each commit's events are in order
  pub read_ordered : (r : Retained) → r ≡ history_of (as_written head spans configs) → AreOrdered r.commits
  read_ordered r same = subst (λ (x : Retained). AreOrdered x.commits) (sym same) (history_ordered (as_written head spans configs) rows_are)

  -- what was read
  pub sound : All (λ c. IsConfigAt head.newest (as_config c)) configs → (r : Retained) → r ≡ history_of (as_written head spans configs) → spans_of r ≤ MAX_ROWS → current spans ≤ MAX_TUPLES
      → IsSound (as_written head spans configs)
  sound revised r same rows few = record {
    number_is = (is.numbered, is.signed);
    order = is.order;
    revs = is.revs;
    spans_are = rows_are.spans_are;
    apart = rows_are.apart;
    configs_are = All-map (IsConfigAt head.newest) as_config configs revised;
    distinct = rows_are.distinct;
    whole = whole;
    admitted = admitted;
    rows = let P : Retained → Type 0 = λ x. spans_of x ≤ MAX_ROWS in subst P same rows;
    tuples = let len = len_current head spans configs rows_are in omega (arith, len, few);
  }

pub history : (h : Contents) (s : Stored) (head : Head) (spans : List ReadSpan) (configs : List ReadConfig) (es : List StoredEntry) (cs : List StoredConfig) (ss : List StoredSpan)
    → es ≡ s.entries.items → cs ≡ s.configs.items → ss ≡ s.spans.items
    → map entry_in es ≡ entries_of (as_written head [] [])
    → map config_row_of (map as_config configs) ≡ map config_row_in cs
    → IsPermutation (map span_in ss) (map span_of (map as_span spans))
    → IsSound (as_written head spans configs) → (r : Retained) → r ≡ history_of (as_written head spans configs) → Loads h s → IsHistory h r
history h s head spans configs es cs ss e c p entries dated perm sound r same loads =
    let Q : List StoredSpan → Type 0 = λ l. IsPermutation (map span_in l) (map span_of (map as_span spans)) in
    let D : List ConfigRow → Type 0 = λ l. IsPermutation h.configs l in
    let E : List Entry → Type 0 = λ l. IsPermutation h.entries l in (
      as_written head spans configs,
      record {
        spans = IsPermutation-trans h.spans (map span_in s.spans.items) (map span_of (map as_span spans)) loads.spans (subst Q p perm);
        configs = subst D (sym (dated ∙ ap (map config_row_in) c)) loads.configs;
        entries = subst E (ap (map entry_in) (sym e) ∙ entries) loads.entries;
      },
      sound,
      sym same,
    )

pub one_history : (h : Contents) (r s : Retained) → IsHistory h r → IsHistory h s → r ≡ s
one_history h r s (v, as_v, sound_v, is_v) (w, as_w, sound_w, is_w) = sym is_v ∙ history_once h v w as_v (rows_in v sound_v) as_w sound_w ∙ is_w
