-- What was taken of events.
use Rattle.std.specs.Prelude.{◌≡◌, List, true}
use Rattle.std.specs.List.{list_any}
use Rattle.names.specs.declared.tuple.Tuple.{Tuple}
use Rattle.names.specs.declared.commit.Event.{Event}
use Rattle.names.specs.declared.commit.EventKind.{EventKind}
use Rattle.names.specs.declared.commit.EventKind.TheVariants.{Put, Del}
use Rattle.meaning.specs.TupleSet as set
use Rattle.meaning.specs.TupleSet.{Tuples}
use Rattle.by_subject.specs.Turned.{turned}
use Rattle.by_subject.specs.Complete.{puts_tuple, IsOf}
use Rattle.rows.specs.Retained.{Retained}

-- the turned tuples, with the event's where it puts that
abbrev pub with_event : EventKind → Tuple → Tuples → Tuples
with_event Put t found = set.insert found (turned t)
with_event Del t found = found

-- each tuple that the events put is found by its subject
abbrev pub HasPuts : List Event → Tuples → Type 0
HasPuts events found = (t : Tuple) → list_any (puts_tuple t) events ≡ true → set.contains found (turned t) ≡ true

-- what was there is there
abbrev pub Keeps : Tuples → Tuples → Type 0
Keeps old new = (t : Tuple) → set.contains old t ≡ true → set.contains new t ≡ true

-- what was there of a history's tuples is there
abbrev pub KeepsOf : Retained → Tuples → Tuples → Type 0
KeepsOf r old new = (t : Tuple) → IsOf r t → set.contains old (turned t) ≡ true → set.contains new (turned t) ≡ true
