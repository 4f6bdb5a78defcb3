-- Which tuples are found by whom they name.
use Rattle.std.specs.Prelude.{◌≡◌, ◌⊎◌, ◌&&◌, Bool, true, false}
use Rattle.std.specs.List.{list_any}
use Rattle.names.specs.Order.{is_same_tuple}
use Rattle.names.specs.declared.tuple.Tuple.{Tuple}
use Rattle.names.specs.declared.commit.Event.{Event}
use Rattle.names.specs.declared.commit.EventKind.{EventKind}
use Rattle.names.specs.declared.commit.EventKind.TheVariants.{Put, Del}
use Rattle.names.specs.declared.commit.Commit.{Commit}
use Rattle.names.specs.declared.commit.Commit.TheVariants as commits
use Rattle.meaning.specs.Config.{Configured}
use Rattle.meaning.specs.TupleSet as set
use Rattle.meaning.specs.TupleSet.{Tuples}
use Rattle.rows.specs.Retained.{Retained}
use Rattle.by_subject.specs.Turned.{turned}

-- each of the tuples is found by its subject
abbrev pub Covers : Tuples → Tuples → Type 0
Covers found tuples = (t : Tuple) → set.contains tuples t ≡ true → set.contains found (turned t) ≡ true

abbrev pub is_put : EventKind → Bool
is_put Put = true
is_put Del = false

-- the event puts the tuple
abbrev pub puts_tuple : Tuple → Event → Bool
puts_tuple t e = is_put e.kind && is_same_tuple t e.tuple

-- the commit puts the tuple
abbrev pub puts : Tuple → Commit Configured → Bool
puts t (commits.Tuples events) = list_any (puts_tuple t) events
puts t (commits.Config config) = false

-- the history's floor holds the tuple, or one of its commits puts it
abbrev pub IsOf : Retained → Tuple → Type 0
IsOf r t = (set.contains r.base.tuples t ≡ true) ⊎ (list_any (puts t) r.commits ≡ true)

-- each tuple that a history had since its floor is found by its subject
abbrev pub IsCompleteFor : Retained → Tuples → Type 0
IsCompleteFor r found = (t : Tuple) → IsOf r t → set.contains found (turned t) ≡ true
