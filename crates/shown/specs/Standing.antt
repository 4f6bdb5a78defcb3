-- What a list of steps leaves.
use Rattle.std.specs.Prelude.{◌≤◌, ◌<◌, ◌+◌, ℕ, List, [], fold, length, min, max, nat_lt, ◌||◌, ◌≡◌, Option, None}
use Rattle.std.specs.List.{IsDistinct}
use Rattle.names.specs.Order.{is_same_node}
use Rattle.meaning.specs.Snap.{empty_snap}
use Rattle.meaning.specs.TupleSet as set
use Rattle.rows.specs.Retained.{Retained, newest, newest_of, spans_of, with_commit, without_newest, after_trim, commits_between, last_config}
use Rattle.rows.specs.Loads.{IsWithin, retained_of}
use Rattle.rows.specs.Follows.{IsNext}
use Rattle.meaning.specs.Verdict.{or_else, refused_if}
use Rattle.names.specs.declared.node.Node.{Node}
use Rattle.names.specs.declared.refusal.Refusal.{Refusal}
use Rattle.names.specs.declared.refusal.Refusal.TheVariants.{StaleBuild, WrongBuild}
use Rattle.names.specs.declared.part.Part.{Part}
use Rattle.names.specs.declared.part.Part.TheVariants.{Index, Hot}
use Rattle.shown.specs.declared.step.Step.{Step}
use Rattle.shown.specs.declared.step.Step.TheVariants.{Open, Commit, Take, Trim, Marking, Rebase}
use Rattle.names.specs.declared.state.State.{State}
use Rattle.shown.specs.Marks.{after_marking, marking_cause}

-- What is retained of the history, and three of its revisions: that of the group index's base, and those up
-- to which the index and the hot table have read; and the marked nodes.
pub record Standing : Type 0 where
  pub kept : Retained
  pub base : ℕ
  pub index : ℕ
  pub hot : ℕ
  pub marks : List Node

-- no commit, in a store that has no number yet
abbrev pub nothing_kept : Retained
nothing_kept = record { number = 0; floor = 0; base = empty_snap; commits = [] }

-- before the first step
abbrev pub nothing : Standing
nothing = record { kept = nothing_kept; base = 0; index = 0; hot = 0; marks = [] }

-- Opening brings what the tables held, with the three revisions at the newest. Marks are not stored.
abbrev pub after_opening : Retained → Standing
after_opening r = record { kept = r; base = newest r; index = newest r; hot = newest r; marks = [] }

-- so many commits further, and no further than the newest
abbrev pub cursor_after : Retained → ℕ → ℕ → ℕ
cursor_after r cursor commits = min (cursor + commits) (newest r)

-- Where the index takes a configuration, its base is made anew at that revision.
abbrev pub after_take : Standing → Part → ℕ → Standing
after_take s Index n =
    let to = cursor_after s.kept s.index n in
    let base = last_config s.base s.index (commits_between s.kept s.index to) in
    record { kept = s.kept; base = base; index = to; hot = s.hot; marks = s.marks }
after_take s Hot n =
    record { kept = s.kept; base = s.base; index = s.index; hot = cursor_after s.kept s.hot n; marks = s.marks }

abbrev pub after_step : Standing → Step → Standing
after_step s (Open loaded) = after_opening (retained_of loaded)
after_step s (Commit commit) =
    record { kept = with_commit s.kept commit; base = s.base; index = s.index; hot = s.hot; marks = s.marks }
after_step s (Take part commits) = after_take s part commits
after_step s (Trim floor) =
    record { kept = after_trim s.kept floor; base = s.base; index = s.index; hot = s.hot; marks = s.marks }
after_step s (Marking marking) =
    record { kept = s.kept; base = s.base; index = s.index; hot = s.hot; marks = after_marking s.marks marking }
after_step s (Rebase rev) =
    record { kept = s.kept; base = rev; index = max s.index rev; hot = s.hot; marks = s.marks }

-- the standing of the steps, done in order
abbrev pub standing : List Step → Standing
standing steps = fold after_step nothing steps

-- the cursor of a part
abbrev pub cursor_of : Part → Standing → ℕ
cursor_of Index s = s.index
cursor_of Hot s = s.hot

-- the revision is above the floor, it is there, and no cursor is below it
pub record CanRaise (s : Standing) (floor : ℕ) : Type 0 where
  pub above : s.kept.floor < floor
  pub there : floor ≤ newest s.kept
  pub index : floor ≤ s.index
  pub hot : floor ≤ s.hot

-- Why the base of the index cannot be that of a revision, or nothing: the revision is below the floor or the base, or above
-- the newest.
abbrev pub base_cause : Standing → ℕ → Option Refusal
base_cause s rev =
    or_else (refused_if StaleBuild (nat_lt rev s.kept.floor || nat_lt rev s.base)) (
    refused_if WrongBuild (nat_lt (newest s.kept) rev))

-- What was opened is within the limits, a commit is one that can follow, the floor can be raised so, and nothing speaks
-- against the marking and the base.
abbrev pub HasRoom : Standing → Step → Type 0
HasRoom s (Open loaded) = IsWithin loaded
HasRoom s (Commit commit) = IsNext s.kept commit
HasRoom s (Take part commits) = Unit {0}
HasRoom s (Trim floor) = CanRaise s floor
HasRoom s (Marking marking) = marking_cause (newest_of s.kept).held.config s.marks marking ≡ None
HasRoom s (Rebase rev) = base_cause s rev ≡ None

-- the cursors are at retained revisions, the index has read up to its base, and a node is marked once
pub record IsSteady (s : Standing) : Type 0 where
  pub index_retained : s.kept.floor ≤ s.index
  pub index_there : s.index ≤ newest s.kept
  pub base_read : s.base ≤ s.index
  pub hot_retained : s.kept.floor ≤ s.hot
  pub hot_there : s.hot ≤ newest s.kept
  pub marked_once : IsDistinct is_same_node s.marks

-- there is a commit above the floor, and no cursor has come to the newest
pub record CanGoBack (s : Standing) : Type 0 where
  pub above : s.kept.floor < newest s.kept
  pub index_before : s.index < newest s.kept
  pub hot_before : s.hot < newest s.kept

-- without the newest commit
abbrev pub before_commit : Standing → Standing
before_commit s =
    record { kept = without_newest s.kept; base = s.base; index = s.index; hot = s.hot; marks = s.marks }

-- the numbers of a standing
abbrev pub state_of : Standing → State
state_of s = record {
  base = s.base;
  floor = s.kept.floor;
  hot = s.hot;
  index = s.index;
  marked = length s.marks;
  newest = newest s.kept;
  rows = spans_of s.kept;
  tuples = set.len (newest_of s.kept).held.tuples;
}
