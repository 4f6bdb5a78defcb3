-- Which refusals are deserved.
use Rattle.std.specs.Prelude.{◌≡◌, ◌⊎◌, ◌≤◌, ◌<◌, ◌*◌, ℕ, List, [], map, length, true, All}
use Rattle.std.specs.declared.cmp.Ordering.TheVariants.{Less}
use Rattle.std.specs.List.{AllAdjacentBelow}
use Rattle.names.specs.Order.{tuple_cmp}
use Rattle.names.specs.Spelling.{IsTuple}
use Rattle.names.specs.declared.tuple.Tuple.{Tuple}
use Rattle.names.specs.declared.refusal.Refusal.{Refusal}
use Rattle.names.specs.declared.refusal.Refusal.TheVariants as causes
use Rattle.meaning.specs.Admits.{admits}
use Rattle.rows.specs.Retained.{Retained, newest}
use Rattle.rows.specs.Loads.{retained_of}
use Rattle.rows.specs.declared.loaded.Loaded.{Loaded}
use Rattle.names.specs.declared.commit.Event.{Event}
use Rattle.std.specs.List.{list_any}
use Rattle.store.specs.inside.Moves.{moves}
use Rattle.sqlite_tables.specs.Tables.{Contents}
use Rattle.sqlite_tables.specs.Stored.{span_in, config_row_in, entry_in, Loads, IsInOrder}
use Rattle.sqlite_tables.specs.declared.stored.TupleText.{TupleText}
use Rattle.sqlite_tables.specs.declared.stored.StoredSpan.{StoredSpan}
use Rattle.sqlite_tables.specs.declared.stored.StoredConfig.{StoredConfig}
use Rattle.sqlite_tables.specs.declared.stored.StoredEntry.{StoredEntry}
use Rattle.sqlite_tables.specs.declared.stored.Stored.{Stored}
use Rattle.store.specs.Written.{TupleSpan, ConfigAt, Written, IsSpan, IsConfigAt, IsHistory, IsSound, Pairwise, are_apart, are_distinct, is_alive, is_moved, is_one, config_at, config_up_to, brings_one, span_of, config_row_of, entries_of}
use Rattle.store.specs.inside.Reading.{as_span, as_config, as_written, Spells, IsHead}
use Rattle.store.specs.declared.parts.ReadSpan.{ReadSpan}
use Rattle.store.specs.declared.parts.ReadConfig.{ReadConfig}
use Rattle.store.specs.declared.parts.Head.{Head}
use Rattle.store.specs.declared.unread.Unread.{Unread}
use Rattle.store.specs.declared.unread.Unread.TheVariants.{Memory, Fault}

-- a fault is event_texts only where the fact does not hold
abbrev pub DeservedBy : Type 0 → Unread → Type 0
DeservedBy P Memory = Unit {0}
DeservedBy P Fault = ¬ P

-- what a text's refusal is to the rows
abbrev pub unread_of : Refusal → Unread
unread_of causes.Memory = Memory
unread_of _ = Fault

-- ---- rows one by one

abbrev pub IsOfTuple : TupleText → Type 0
IsOfTuple text = (t : Tuple) × IsTuple t × Spells text t

abbrev pub IsOfSpan : ℕ → ℕ → StoredSpan → Type 0
IsOfSpan floor newest s = (l : TupleSpan) × IsSpan floor newest l × (span_of l ≡ span_in s)

abbrev pub IsOfConfig : ℕ → StoredConfig → Type 0
IsOfConfig newest s = (c : ConfigAt) × IsConfigAt newest c × (config_row_of c ≡ config_row_in s)

abbrev pub AreOfHead : List StoredEntry → Type 0
AreOfHead entries = (head : Head) × IsHead head × (map entry_in entries ≡ entries_of (as_written head [] []))

-- ---- the rows together

-- the first is of a lesser tuple, or of the same and begins no later
abbrev pub IsListed : TupleSpan → TupleSpan → Type 0
IsListed a b = (tuple_cmp a.tuple b.tuple ≡ Less) ⊎ ((a.tuple ≡ b.tuple) × (a.added ≤ b.added))

abbrev pub SpansListed : List ReadSpan → Type 0
SpansListed spans = AllAdjacentBelow (λ a b. IsListed (as_span a) (as_span b)) spans (length spans)

abbrev pub ConfigsListed : List ReadConfig → Type 0
ConfigsListed configs = AllAdjacentBelow (λ (a b : ReadConfig). a.rev ≤ b.rev) configs (length configs)

-- the order in which rows are tested
pub record AreListed (configs : List ReadConfig) (spans : List ReadSpan) : Type 0 where
  pub tuples : SpansListed spans
  pub revs : ConfigsListed configs

-- the configurations of a history up to a revision
pub record AreConfigs (floor newest : ℕ) (configs : List ConfigAt) : Type 0 where
  pub order : floor ≤ newest
  pub are : All (IsConfigAt newest) configs
  pub distinct : Pairwise (are_distinct floor) configs

-- up to a revision, each configuration that is in force while the span is there admits its tuple
abbrev pub IsAdmittedTo : ℕ → ℕ → List ConfigAt → TupleSpan → Type 0
IsAdmittedTo floor newest configs l = (rev : ℕ) → floor ≤ rev → rev ≤ newest → is_alive rev l ≡ true → admits (config_up_to rev configs) l.tuple ≡ true

-- ---- what a test that fails denies

-- two spans of one tuple overlap
abbrev pub Overlap : List ReadSpan → Type 0
Overlap spans = (floor newest : ℕ) → All (IsSpan floor newest) (map as_span spans) → ¬ (Pairwise are_apart (map as_span spans))

abbrev pub AreDistinct : ℕ → List ReadConfig → Type 0
AreDistinct floor configs = Pairwise (are_distinct floor) (map as_config configs)

-- some configuration that is in force while the span is there does not admit its tuple
abbrev pub IsNotAdmitted : ℕ → List ReadConfig → ReadSpan → Type 0
IsNotAdmitted floor configs s =
    (newest : ℕ) → AreConfigs floor newest (map as_config configs) → IsSpan floor newest (as_span s) → ¬ (IsAdmittedTo floor newest (map as_config configs) (as_span s))

-- so it is of some span
abbrev pub AreNotAdmitted : ℕ → List ReadConfig → List ReadSpan → Type 0
AreNotAdmitted floor configs spans =
    (newest : ℕ) → AreConfigs floor newest (map as_config configs) → All (λ s. IsSpan floor newest (as_span s)) spans → ¬ (All (λ s. IsAdmittedTo floor newest (map as_config configs) (as_span s)) spans)

abbrev pub AreSound : Head → List ReadConfig → List ReadSpan → Type 0
AreSound head configs spans = IsSound (as_written head spans configs)

-- the events are those of a revision that is one commit
abbrev pub IsWholeAt : ℕ → List ReadConfig → List Event → Type 0
IsWholeAt rev configs events =
    (spans : List TupleSpan) × (events ≡ moves rev spans) × (is_one (config_at rev (map as_config configs)) (list_any (is_moved rev) spans) ≡ true)

-- each revision above the floor is one commit
abbrev pub IsWholeAbove : Written → Type 0
IsWholeAbove w = (rev : ℕ) → w.floor < rev → rev ≤ w.newest → brings_one w rev ≡ true

-- ---- the whole

-- what was loaded is of this history
abbrev pub IsHistoryOf : Stored → Loaded → Type 0
IsHistoryOf s l = (h : Contents) → Loads h s → IsHistory h (retained_of l)

-- and of no other
abbrev pub IsTheHistoryOf : Stored → Loaded → Type 0
IsTheHistoryOf s l = (h : Contents) (r : Retained) → Loads h s → IsHistory h r → retained_of l ≡ r

-- there is none whose newest revision has the last rowid, or a later one
abbrev pub HasNoHistory : Stored → Type 0
HasNoHistory s = (h : Contents) (r : Retained) → Loads h s → IsHistory h r → ¬ (s.last_rowid ≤ 256 * newest r)

-- what was loaded is in order, and of contents that hold a history
abbrev pub IsOfHistory : Stored → Type 0
IsOfHistory s = IsInOrder s × ((h : Contents) × Loads h s × ((r : Retained) × IsHistory h r))
