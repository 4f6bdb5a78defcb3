-- What watched events make of a revision's tuples.
use Rattle.std.specs.Prelude.{◌≡◌, ℕ, List, map, true}
use Rattle.names.specs.declared.tuple.Tuple.{Tuple}
use Rattle.names.specs.declared.commit.Event.{Event}
use Rattle.meaning.specs.TupleSet as set
use Rattle.meaning.specs.History.{replay}
use Rattle.rows.specs.Retained.{Retained, snap_at, commits_between}
use Rattle.watch.specs.declared.watched.Namespaces.{Namespaces}
use Rattle.watch.specs.declared.watched.Namespaces.TheVariants.{All}
use Rattle.watch.specs.declared.watched.WatchedEvent.{WatchedEvent}
use Rattle.watch.specs.Watched.{is_watched, watched}

abbrev pub events_of : List WatchedEvent → List Event
events_of ws = map (λ w. w.event) ws

-- the tuples at the one revision, with the events up to the other done in order
abbrev pub replayed : Retained → Namespaces → ℕ → ℕ → set.Tuples
replayed r n from to = replay (snap_at r from).tuples (events_of (watched n from (commits_between r from to)))

-- the same tuples of the namespaces are in both sets
abbrev pub AreAlike : Namespaces → set.Tuples → set.Tuples → Type 0
AreAlike n a b = (t : Tuple) → is_watched n t ≡ true → set.contains a t ≡ set.contains b t

abbrev pub Replays : Retained → Namespaces → ℕ → ℕ → Type 0
Replays r n from to = AreAlike n (replayed r n from to) (snap_at r to).tuples

abbrev pub ReplaysAll : Retained → ℕ → ℕ → Type 0
ReplaysAll r from to = replayed r All from to ≡ (snap_at r to).tuples
