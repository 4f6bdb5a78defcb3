-- The versions of tuples: each tuple has a version for each event on it, and one where the floor holds it.
use Rattle.std.specs.Prelude.{◌≡◌, ℕ, ◌+◌, ◌-◌, ◌==◌, List, [], ◌∷◌, ◌++◌, length, take, drop, filter, Bool, true, false, cond, not, nat_le, Option, Some, None}
use Rattle.std.specs.List.Sorted.{IsNonDecreasingBy}
use Rattle.std.specs.Map.{lookup, keys_of}
use Rattle.names.specs.Order.{is_same_tuple}
use Rattle.names.specs.declared.tuple.Tuple.{Tuple}
use Rattle.names.specs.declared.commit.Event.{Event}
use Rattle.names.specs.declared.commit.EventKind.{EventKind}
use Rattle.names.specs.declared.commit.EventKind.TheVariants.{Put, Del}
use Rattle.names.specs.declared.commit.Commit.{Commit}
use Rattle.names.specs.declared.commit.Commit.TheVariants as kinds
use Rattle.meaning.specs.TupleSet as set
use Rattle.meaning.specs.TupleSet.{Tuples}
use Rattle.meaning.specs.Config.{Configured}
use Rattle.meaning.specs.Admits.{admits}
use Rattle.meaning.specs.Snap.{Snap}
use Rattle.meaning.specs.History.{History, replay, after_commit, after_commits, puts_in, commit_rows, rows_of}
use Rattle.versions.specs.declared.version.Version.{Version}
use Rattle.versions.specs.declared.change.Change.{Change}

-- the tuples that have versions, in order, each with its versions
abbrev pub Entries : Type 0
Entries = List (Tuple × List Version)

-- the tuples of the entries
abbrev pub keys : Entries → List Tuple
keys es = keys_of es

abbrev pub items_or : Option (List Version) → List Version
items_or None = []
items_or (Some ms) = ms

-- the versions of a tuple
abbrev pub versions_at : Entries → Tuple → List Version
versions_at es q = items_or (lookup (is_same_tuple q) es)

abbrev pub is_put : EventKind → Bool
is_put Put = true
is_put Del = false

-- the version of an event at a revision
abbrev pub version_of : ℕ → Event → Version
version_of rev e = record { rev = rev; put = is_put e.kind }

-- the versions that events at a revision make on a tuple
abbrev pub versions_in : ℕ → List Event → Tuple → List Version
versions_in rev [] q = []
versions_in rev (e ∷ es) q = cond (is_same_tuple q e.tuple) (version_of rev e ∷ versions_in rev es q) (versions_in rev es q)

abbrev pub commit_versions : ℕ → Commit Configured → Tuple → List Version
commit_versions rev (kinds.Tuples events) q = versions_in rev events q
commit_versions rev (kinds.Config config) q = []

-- the versions that the commits above a revision make
abbrev pub versions_after : ℕ → History → Tuple → List Version
versions_after rev [] q = []
versions_after rev (c ∷ h) q = commit_versions (rev + 1) c q ++ versions_after (rev + 1) h q

-- a tuple that the floor holds has a put, at revision 0
abbrev pub base_versions : Bool → List Version
base_versions held = cond held (record { rev = 0; put = true } ∷ []) []

-- the first version is of what the floor holds
abbrev pub is_based : List Version → Bool
is_based [] = false
is_based (m ∷ ms) = m.rev == 0

-- whether the last version up to a revision is a put
abbrev pub stands_from : Bool → List Version → ℕ → Bool
stands_from b [] rev = b
stands_from b (m ∷ ms) rev = stands_from (cond (nat_le m.rev rev) m.put b) ms rev

abbrev pub stands : List Version → ℕ → Bool
stands ms rev = stands_from false ms rev

-- whether the last version is a put
abbrev pub last_from : Bool → List Version → Bool
last_from b [] = b
last_from b (m ∷ ms) = last_from m.put ms

abbrev pub is_there : List Version → Bool
is_there ms = last_from false ms

-- the revision of the last version
abbrev pub last_rev_from : ℕ → List Version → ℕ
last_rev_from rev [] = rev
last_rev_from rev (m ∷ ms) = last_rev_from m.rev ms

abbrev pub last_rev : List Version → ℕ
last_rev ms = last_rev_from 0 ms

abbrev pub drop_last : List Version → List Version
drop_last ms = take (length ms - 1) ms

-- the versions are in the order of their revisions
abbrev pub IsRising : List Version → Type 0
IsRising ms = IsNonDecreasingBy (λ m. m.rev) ms

-- those of each tuple are
abbrev pub AreRising : Entries → Type 0
AreRising m = (q : Tuple) → IsRising (versions_at m q)

-- the tuples that the floor holds
abbrev pub base_tuples : Entries → Tuples
base_tuples m = set.from_list (filter (λ t. is_based (versions_at m t)) (keys m))

-- the versions are those of the tuples that the floor holds, and of the commits above it
abbrev pub AreVersions : Entries → Tuples → ℕ → History → Type 0
AreVersions m tuples floor h = (q : Tuple) → versions_at m q ≡ base_versions (set.contains tuples q) ++ versions_after floor h q

-- the map has the versions of before, and then those of the events
abbrev pub GoesOn : (Tuple → List Version) → Entries → ℕ → List Event → Type 0
GoesOn before m rev events = (q : Tuple) → versions_at m q ≡ before q ++ versions_in rev events q

-- the set has the tuples whose last version is a put
abbrev pub HasThese : Tuples → (Tuple → List Version) → Type 0
HasThese tuples versions = (q : Tuple) → set.contains tuples q ≡ is_there (versions q)

-- the versions of each tuple stay
abbrev pub HasSame : Entries → Entries → Type 0
HasSame old new = (q : Tuple) → versions_at new q ≡ versions_at old q

-- the versions of one tuple change so, and those of the others stay
abbrev pub ChangesAt : Tuple → (List Version → List Version) → Entries → Entries → Type 0
ChangesAt t f old new = (q : Tuple) → versions_at new q ≡ cond (is_same_tuple q t) (f (versions_at old q)) (versions_at old q)

-- with one version more
abbrev pub with_version : Version → List Version → List Version
with_version v vs = vs ++ v ∷ []

-- the only versions are of what the floor holds
abbrev pub HasBase : Entries → Tuples → Type 0
HasBase m tuples = (q : Tuple) → versions_at m q ≡ base_versions (set.contains tuples q)

-- so many tuples come with the events, and so many go
abbrev pub Changes : (Tuple → List Version) → List Event → Change → Type 0
Changes before events change = (tuples : Tuples) → HasThese tuples before → set.len (replay tuples events) + change.gone ≡ set.len tuples + change.come

-- the versions without those of the events
abbrev pub TakesOff : Entries → List Event → Entries → Type 0
TakesOff old events new = (before : Tuple → List Version) (rev : ℕ) → GoesOn before old rev events → (q : Tuple) → versions_at new q ≡ before q

-- so many tuples came with the events that the versions end with, and so many went
abbrev pub HasChanged : Entries → List Event → Change → Type 0
HasChanged old events change = (before : Tuple → List Version) (rev : ℕ) → GoesOn before old rev events → Changes before events change

-- the oldest version taken into what the floor holds
abbrev pub after_settle_first : List Version → List Version
after_settle_first [] = []
after_settle_first (m ∷ ms) = cond m.put (record { rev = 0; put = true } ∷ ms) ms

abbrev pub after_settle : List Version → List Version
after_settle ms = after_settle_first (cond (is_based ms) (drop 1 ms) ms)

-- the versions are those of a set of tuples, then those of the events at the next revision, then the later ones
abbrev pub AreVersionsBefore : Entries → Tuples → ℕ → List Event → (Tuple → List Version) → Type 0
AreVersionsBefore m tuples rev events later = (q : Tuple) → versions_at m q ≡ base_versions (set.contains tuples q) ++ (versions_in (rev + 1) events q ++ later q)

-- the same of commits
abbrev pub AreVersionsFrom : Entries → Tuples → ℕ → History → (Tuple → List Version) → Type 0
AreVersionsFrom m tuples rev h later = (q : Tuple) → versions_at m q ≡ base_versions (set.contains tuples q) ++ (versions_after rev h q ++ later q)

-- no version of these is of what the floor holds
abbrev pub IsLater : (Tuple → List Version) → Type 0
IsLater later = (q : Tuple) → is_based (later q) ≡ false

-- the events of the revision above the floor are taken into what the floor holds
abbrev pub SettlesEvents : Entries → List Event → Entries → Type 0
SettlesEvents old events new = (tuples : Tuples) (rev : ℕ) (later : Tuple → List Version) → IsLater later → AreVersionsBefore old tuples rev events later
    → (q : Tuple) → versions_at new q ≡ base_versions (set.contains (replay tuples events) q) ++ later q

-- so many spans end with them
abbrev pub EndsWithEvents : Entries → List Event → ℕ → Type 0
EndsWithEvents old events ended = (tuples : Tuples) (rev : ℕ) (later : Tuple → List Version) → IsLater later → AreVersionsBefore old tuples rev events later
    → ended + set.len (replay tuples events) ≡ set.len tuples + puts_in events

-- the commits above the floor are taken into what the floor holds
abbrev pub SettlesCommits : Entries → History → Entries → Type 0
SettlesCommits old commits new = (s : Snap) (rev : ℕ) (later : Tuple → List Version) → IsLater later → AreVersionsFrom old s.tuples rev commits later
    → (q : Tuple) → versions_at new q ≡ base_versions (set.contains (after_commits s commits).tuples q) ++ later q

-- so many spans end with the one commit
abbrev pub EndsWithCommit : Entries → Commit Configured → ℕ → Type 0
EndsWithCommit old commit ended = (s : Snap) (rev : ℕ) (later : Tuple → List Version) → IsLater later → AreVersionsFrom old s.tuples rev (commit ∷ []) later
    → ended + set.len (after_commit s commit).tuples ≡ set.len s.tuples + commit_rows commit

-- of the spans those are left that do not end with the commits
abbrev pub LeavesSpans : Entries → History → ℕ → ℕ → Type 0
LeavesSpans old commits spans left = (s : Snap) (rev others : ℕ) (later : Tuple → List Version) → IsLater later → AreVersionsFrom old s.tuples rev commits later
    → spans ≡ set.len s.tuples + rows_of commits + others → left ≡ set.len (after_commits s commits).tuples + others

-- the tuples that stand at a revision
abbrev pub tuples_at : Entries → ℕ → List Tuple
tuples_at m rev = filter (λ t. stands (versions_at m t) rev) (keys m)

-- the tuples whose last version is a put
abbrev pub newest_tuples : Entries → List Tuple
newest_tuples m = filter (λ t. is_there (versions_at m t)) (keys m)

-- the configuration does not admit the tuple
abbrev pub refuses : Configured → Tuple → Bool
refuses config t = not (admits config t)
