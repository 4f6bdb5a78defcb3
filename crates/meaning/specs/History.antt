-- The history of a store, and what each revision of it holds: the snapshots of Zanzibar, section 2.2.
use Rattle.std.specs.Prelude.{ℕ, ◌+◌, List, [], ◌∷◌, take, length}
use Rattle.meaning.specs.TupleSet as set
use Rattle.names.specs.declared.tuple.Tuple.{Tuple}
use Rattle.names.specs.declared.commit.Event.{Event}
use Rattle.names.specs.declared.commit.EventKind.{EventKind}
use Rattle.names.specs.declared.commit.EventKind.TheVariants.{Put, Del}
use Rattle.names.specs.declared.commit.Commit.{Commit}
use Rattle.names.specs.declared.commit.Commit.TheVariants.{Tuples, Config}
use Rattle.meaning.specs.Config.{Configured}
use Rattle.meaning.specs.Snap.{Snap, empty_snap}
use Rattle.meaning.specs.Snap as snaps

-- the accepted commits; the revision of each is its place, from 1
abbrev pub History : Type 0
History = List (Commit Configured)

abbrev pub after_kind : EventKind → Tuple → snaps.Tuples → snaps.Tuples
after_kind Put t tuples = set.insert tuples t
after_kind Del t tuples = set.remove tuples t

-- the tuples, with the event done
abbrev pub after_event : snaps.Tuples → Event → snaps.Tuples
after_event tuples e = after_kind e.kind e.tuple tuples

-- the tuples, with each event done in order
abbrev pub replay : snaps.Tuples → List Event → snaps.Tuples
replay tuples [] = tuples
replay tuples (e ∷ es) = replay (after_event tuples e) es

abbrev pub after_commit : Snap → Commit Configured → Snap
after_commit s (Tuples events) = record { config = s.config; tuples = replay s.tuples events }
after_commit s (Config config) = record { config = config; tuples = s.tuples }

abbrev pub after_commits : Snap → History → Snap
after_commits s [] = s
after_commits s (c ∷ cs) = after_commits (after_commit s c) cs

-- what a revision holds: the last configuration up to it, and the tuples whose last event up to it is a put
abbrev pub snap : History → ℕ → Snap
snap h rev = after_commits empty_snap (take rev h)

abbrev pub newest_rev : History → ℕ
newest_rev h = length h

-- how many events put a tuple
abbrev pub puts_of_kind : EventKind → ℕ
puts_of_kind Put = 1
puts_of_kind Del = 0

abbrev pub puts_in : List Event → ℕ
puts_in [] = 0
puts_in (e ∷ es) = puts_of_kind e.kind + puts_in es

abbrev pub commit_rows : Commit Configured → ℕ
commit_rows (Tuples events) = puts_in events
commit_rows (Config config) = 0

-- How many rows the history has: a row is one span of revisions of one tuple, which begins at a put.
abbrev pub rows_of : History → ℕ
rows_of [] = 0
rows_of (c ∷ cs) = commit_rows c + rows_of cs
