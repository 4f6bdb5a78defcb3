-- What the rows of the three tables say, and the history that this is.
use Rattle.std.specs.Prelude.{◌≡◌, ◌≤◌, ◌<◌, ◌^◌, ◌⊎◌, ◌+◌, ◌-◌, ◌==◌, ◌&&◌, ◌||◌, ℕ, Bool, true, false, List, [], ◌∷◌, map, filter, codes, cond, not, nat_le, nat_lt, Option, Some, None, All, IsPermutation}
use Rattle.std.proofs.Common.{zero, suc}
use Rattle.std.specs.List.{list_any}
use Rattle.serde_json.specs.Written.{compact_text}
use Rattle.names.specs.declared.limits.TheConstants.{MAX_REV, MAX_ROWS, MAX_TUPLES}
use Rattle.names.specs.Order.{is_same_tuple}
use Rattle.names.specs.Spelling.{IsTuple, subject_text}
use Rattle.names.specs.declared.tuple.Tuple.{Tuple}
use Rattle.names.specs.declared.commit.Event.{Event}
use Rattle.names.specs.declared.commit.EventKind.TheVariants.{Put, Del}
use Rattle.names.specs.declared.commit.Commit.{Commit}
use Rattle.names.specs.declared.commit.Commit.TheVariants as kinds
use Rattle.meaning.specs.Config.{Configured, empty_config}
use Rattle.meaning.specs.Snap as snaps
use Rattle.meaning.specs.TupleSet as set
use Rattle.meaning.specs.Admits.{admits}
use Rattle.meaning.specs.History.{History}
use Rattle.config_text.specs.Canonical.{config_data}
use Rattle.config.specs.Causes.{Accepts}
use Rattle.rows.specs.Retained.{Retained, newest_of, spans_of}
use Rattle.sqlite_tables.specs.Tables.{Span, ConfigRow, Entry, Contents}

-- revisions in which a tuple is there: from the one that added it to the one that removed it, or 0 while it still is
pub record TupleSpan : Type 0 where
  pub tuple : Tuple
  pub added : ℕ
  pub removed : ℕ

-- a configuration, and the revision from which it was in force
pub record ConfigAt : Type 0 where
  pub rev : ℕ
  pub config : Configured

pub record Written : Type 0 where
  pub number : ℕ
  pub floor : ℕ
  pub newest : ℕ
  pub spans : List TupleSpan
  pub configs : List ConfigAt

-- ---- as the texts of the tables

abbrev pub canonical : Configured → List ℕ
canonical config = compact_text (config_data config)

abbrev pub span_of : TupleSpan → Span
span_of l = record {
  namespace = l.tuple.node.object.namespace;
  object = l.tuple.node.object.id;
  relation = l.tuple.node.relation;
  subject = subject_text l.tuple.subject;
  added = l.added;
  removed = l.removed;
}

abbrev pub config_row_of : ConfigAt → ConfigRow
config_row_of c = record { rev = c.rev; text = canonical c.config }

abbrev pub entry : List ℕ → ℕ → Entry
entry key value = record { key = key; value = value }

-- format 1
abbrev pub entries_of : Written → List Entry
entries_of w = entry (codes "floor") w.floor ∷ entry (codes "format") 1 ∷ entry (codes "newest") w.newest ∷ entry (codes "store") w.number ∷ []

-- the tables have these rows, in any order
pub record IsWritten (h : Contents) (w : Written) : Type 0 where
  pub spans : IsPermutation h.spans (map span_of w.spans)
  pub configs : IsPermutation h.configs (map config_row_of w.configs)
  pub entries : IsPermutation h.entries (entries_of w)

-- ---- the history

abbrev pub is_alive : ℕ → TupleSpan → Bool
is_alive rev l = nat_le l.added rev && ((l.removed == 0) || nat_lt rev l.removed)

-- the tuple comes or goes at the revision
abbrev pub is_moved : ℕ → TupleSpan → Bool
is_moved rev l = (l.added == rev) || (l.removed == rev)

abbrev pub tuples_alive : ℕ → List TupleSpan → List Tuple
tuples_alive rev spans = map (λ l. l.tuple) (filter (is_alive rev) spans)

abbrev pub tuples_of : (TupleSpan → Bool) → List TupleSpan → snaps.Tuples
tuples_of test spans = set.from_list (map (λ l. l.tuple) (filter test spans))

-- some span of the tuple begins at the revision
abbrev pub is_put_at : ℕ → List TupleSpan → Tuple → Bool
is_put_at rev spans t = list_any (λ l. is_same_tuple t l.tuple && (l.added == rev)) spans

abbrev pub event_at : ℕ → List TupleSpan → Tuple → Event
event_at rev spans t = record { tuple = t; kind = cond (is_put_at rev spans t) Put Del }

-- the events of a revision, in the order of their tuples
abbrev pub events_at : ℕ → List TupleSpan → List Event
events_at rev spans = map (event_at rev spans) (set.items (tuples_of (is_moved rev) spans))

-- the configuration that a revision brings, if it brings one
abbrev pub config_at : ℕ → List ConfigAt → Option Configured
config_at rev [] = None
config_at rev (c ∷ cs) = cond (c.rev == rev) (Some c.config) (config_at rev cs)

abbrev pub commit_of : Option Configured → List Event → Commit Configured
commit_of (Some config) events = kinds.Config config
commit_of None events = kinds.Tuples events

abbrev pub commit_at : Written → ℕ → Commit Configured
commit_at w rev = commit_of (config_at rev w.configs) (events_at rev w.spans)

-- so many commits above a revision
abbrev pub commits_above : Written → ℕ → ℕ → History
commits_above w rev zero = []
commits_above w rev (suc n) = commit_at w (rev + 1) ∷ commits_above w (rev + 1) n

-- the last configuration up to a revision; revision 0 has the empty one
abbrev pub last_up_to : ℕ → List ConfigAt → ConfigAt
last_up_to rev [] = record { rev = 0; config = empty_config }
last_up_to rev (c ∷ cs) = cond (nat_le c.rev rev && nat_lt (last_up_to rev cs).rev c.rev) c (last_up_to rev cs)

abbrev pub config_up_to : ℕ → List ConfigAt → Configured
config_up_to rev configs = (last_up_to rev configs).config

-- those above the floor
abbrev pub commits_of : Written → History
commits_of w = commits_above w w.floor (w.newest - w.floor)

abbrev pub history_of : Written → Retained
history_of w = record {
  number = w.number;
  floor = w.floor;
  base = record { config = config_up_to w.floor w.configs; tuples = tuples_of (is_alive w.floor) w.spans };
  commits = commits_of w;
}

-- ---- which rows are a history

-- the end is 0, or above the beginning and above the floor, and not above the newest
abbrev pub Ends : ℕ → ℕ → ℕ → ℕ → Type 0
Ends floor newest added removed = (removed ≡ 0) ⊎ ((added < removed) × (floor < removed) × (removed ≤ newest))

-- the span begins above revision 0, ends above its beginning and above the floor if it ends, and both not above the newest
pub record IsSpan (floor newest : ℕ) (l : TupleSpan) : Type 0 where
  pub spelled : IsTuple l.tuple
  pub begins : 0 < l.added
  pub begun : l.added ≤ newest
  pub ends : Ends floor newest l.added l.removed

-- the first span ends where the second begins, or before
abbrev pub is_before : TupleSpan → TupleSpan → Bool
is_before a b = nat_lt 0 a.removed && nat_le a.removed b.added

-- of spans of one tuple one comes before the other
abbrev pub are_apart : TupleSpan → TupleSpan → Bool
are_apart a b = cond (is_same_tuple a.tuple b.tuple) (is_before a b || is_before b a) true

-- the configuration is a valid one, of a revision above 0 and not above the newest
pub record IsConfigAt (newest : ℕ) (c : ConfigAt) : Type 0 where
  pub valid : Accepts (canonical c.config) c.config
  pub begins : 0 < c.rev
  pub begun : c.rev ≤ newest

-- no two configurations are of one revision, and one at most is not above the floor
abbrev pub are_distinct : ℕ → ConfigAt → ConfigAt → Bool
are_distinct floor a b = cond (a.rev == b.rev) false (nat_lt floor a.rev || nat_lt floor b.rev)

-- each is so beside each that comes after it
abbrev pub Pairwise : {A : Type 0} → (A → A → Bool) → List A → Type 0
Pairwise test [] = Unit {0}
Pairwise test (x ∷ xs) = All (λ y. test x y ≡ true) xs × Pairwise test xs

-- the revision brings a configuration, or events, and not both
abbrev pub is_one : Option Configured → Bool → Bool
is_one (Some config) moved = not moved
is_one None moved = moved

abbrev pub brings_one : Written → ℕ → Bool
brings_one w rev = is_one (config_at rev w.configs) (list_any (is_moved rev) w.spans)

pub record IsSound (w : Written) : Type 0 where
  pub number_is : (1 ≤ w.number) × (w.number < 2 ^ 63)
  pub order : w.floor ≤ w.newest
  pub revs : w.newest ≤ MAX_REV
  pub spans_are : All (IsSpan w.floor w.newest) w.spans
  pub apart : Pairwise are_apart w.spans
  pub configs_are : All (IsConfigAt w.newest) w.configs
  pub distinct : Pairwise (are_distinct w.floor) w.configs
  -- each revision above the floor is one commit
  pub whole : (rev : ℕ) → w.floor < rev → rev ≤ w.newest → brings_one w rev ≡ true
  -- each tuple is admitted by each configuration that is in force while it is there, from the floor on
  pub admitted : (rev : ℕ) → w.floor ≤ rev → rev ≤ w.newest → All (λ l. is_alive rev l ≡ true → admits (config_up_to rev w.configs) l.tuple ≡ true) w.spans
  pub rows : spans_of (history_of w) ≤ MAX_ROWS
  pub tuples : set.len (newest_of (history_of w)).held.tuples ≤ MAX_TUPLES

-- the tables hold the history
abbrev pub IsHistory : Contents → Retained → Type 0
IsHistory h r = (w : Written) × IsWritten h w × IsSound w × (history_of w ≡ r)
