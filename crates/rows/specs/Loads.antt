-- What tables held.
use Rattle.std.specs.Prelude.{ℕ, ◌≤◌, take}
use Rattle.std.specs.List.Sorted.{IsStrictlySortedBy}
use Rattle.names.specs.declared.limits.TheConstants.{MAX_REV, MAX_ROWS}
use Rattle.names.specs.Order.{tuple_cmp}
use Rattle.meaning.specs.TupleSet as set
use Rattle.rows.specs.Ordered.{AreOrdered}
use Rattle.rows.specs.Retained.{Retained, newest, spans_of, IsAdmitted}
use Rattle.rows.specs.declared.loaded.Loaded.{Loaded}

-- what is retained of the history in the tables
abbrev pub retained_of : Loaded → Retained
retained_of l = record { number = l.number; floor = l.floor; base = record { config = l.config; tuples = set.from_list l.tuples }; commits = l.commits }

-- with the first commits alone
abbrev pub loaded_to : Loaded → ℕ → Retained
loaded_to l k = record { number = l.number; floor = l.floor; base = record { config = l.config; tuples = set.from_list l.tuples }; commits = take k l.commits }

-- the tuples are in order, each once, the limits of revisions and rows hold, each revision's tuples are admitted, and
-- each commit's events are in order
pub record IsWithin (l : Loaded) : Type 0 where
  pub ordered : IsStrictlySortedBy tuple_cmp l.tuples
  pub revs : newest (retained_of l) ≤ MAX_REV
  pub rows : spans_of (retained_of l) ≤ MAX_ROWS
  pub admitted : IsAdmitted (retained_of l)
  pub each_ordered : AreOrdered l.commits
