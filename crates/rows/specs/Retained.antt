-- What is retained of a history: what its floor holds, and the commits above it (Zanzibar, section 2.2).
use Rattle.std.specs.Prelude.{◌≡◌, ℕ, ◌+◌, ◌-◌, ◌≤◌, [], ◌∷◌, ◌++◌, length, take, drop, Bool, true, false}
use Rattle.std.specs.List.{list_any}
use Rattle.names.specs.declared.limits.TheConstants.{MAX_REV, MAX_ROWS}
use Rattle.names.specs.Order.{is_same_tuple}
use Rattle.names.specs.declared.tuple.Tuple.{Tuple}
use Rattle.names.specs.declared.commit.Commit.{Commit}
use Rattle.names.specs.declared.commit.Commit.TheVariants.{Tuples, Config}
use Rattle.meaning.specs.TupleSet as set
use Rattle.meaning.specs.Config.{Configured}
use Rattle.meaning.specs.Admits.{admits}
use Rattle.meaning.specs.Snap.{Snap, empty_snap}
use Rattle.meaning.specs.History.{History, after_commit, after_commits, rows_of, commit_rows}
use Rattle.meaning.specs.Verdict.{Newest}
use Rattle.rows.specs.Ordered.{is_ordered}

-- the store's number, the floor, what the floor holds, and the commits above it
pub record Retained : Type 0 where
  pub number : ℕ
  pub floor : ℕ
  pub base : Snap
  pub commits : History

-- the store with this number and these commits, from its first on
abbrev pub store_from : ℕ → History → Retained
store_from number commits = record { number = number; floor = 0; base = empty_snap; commits = commits }

-- the store with this number, before its first commit
abbrev pub empty_store : ℕ → Retained
empty_store number = store_from number []

-- the newest revision
abbrev pub newest : Retained → ℕ
newest r = r.floor + length r.commits

-- the revision is not below the floor, and not above the newest
pub record IsRetained (r : Retained) (rev : ℕ) : Type 0 where
  pub not_below : r.floor ≤ rev
  pub not_above : rev ≤ newest r

-- what a retained revision holds
abbrev pub snap_at : Retained → ℕ → Snap
snap_at r rev = after_commits r.base (take (rev - r.floor) r.commits)

-- the configuration admits each tuple
abbrev pub AreAdmitted : Snap → Type 0
AreAdmitted s = (t : Tuple) → set.contains s.tuples t ≡ true → admits s.config t ≡ true

-- so it is at each retained revision
abbrev pub IsAdmitted : Retained → Type 0
IsAdmitted r = (rev : ℕ) → IsRetained r rev → AreAdmitted (snap_at r rev)

-- How many spans of revisions are retained: a tuple that the floor holds has one, and each put above the floor begins one.
abbrev pub spans_of : Retained → ℕ
spans_of r = set.len r.base.tuples + rows_of r.commits

-- what changes are judged on
abbrev pub newest_of : Retained → Newest
newest_of r = record { rev = newest r; rows = spans_of r; held = after_commits r.base r.commits }

-- one commit more
abbrev pub with_commit : Retained → Commit Configured → Retained
with_commit r c = record { number = r.number; floor = r.floor; base = r.base; commits = r.commits ++ c ∷ [] }

-- without the newest commit
abbrev pub without_newest : Retained → Retained
without_newest r = record { number = r.number; floor = r.floor; base = r.base; commits = take (length r.commits - 1) r.commits }

-- with a higher floor
abbrev pub after_trim : Retained → ℕ → Retained
after_trim r floor = record { number = r.number; floor = floor; base = snap_at r floor; commits = drop (floor - r.floor) r.commits }

-- with the commit, the limits of revisions and rows still hold, and each tuple is admitted; its events are in order
pub record HasRoom (r : Retained) (c : Commit Configured) : Type 0 where
  pub revs : newest r + 1 ≤ MAX_REV
  pub rows : commit_rows c ≤ MAX_ROWS - spans_of r
  pub admitted : AreAdmitted (after_commit (newest_of r).held c)
  pub ordered : is_ordered c ≡ true

-- the commit has an event on the tuple
abbrev pub touches : Tuple → Commit Configured → Bool
touches t (Tuples events) = list_any (λ e. is_same_tuple t e.tuple) events
touches t (Config config) = false

-- the commits of the revisions above one, up to another
abbrev pub commits_between : Retained → ℕ → ℕ → History
commits_between r from to = take (to - from) (drop (from - r.floor) r.commits)

-- some commit above the revision has an event on the tuple
abbrev pub is_touched_after : Retained → Tuple → ℕ → Bool
is_touched_after r t rev = list_any (touches t) (drop (rev - r.floor) r.commits)

-- the revision of the last configuration among the commits above rev, or else base
abbrev pub last_config : ℕ → ℕ → History → ℕ
last_config base rev [] = base
last_config base rev (Tuples events ∷ h) = last_config base (rev + 1) h
last_config base rev (Config config ∷ h) = last_config (rev + 1) (rev + 1) h
