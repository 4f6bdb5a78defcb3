-- What a watch is answered, and why it is refused.
use Rattle.std.specs.Prelude.{◌≡◌, ℕ}
use Rattle.names.specs.declared.refusal.Refusal.{Refusal}
use Rattle.names.specs.declared.refusal.Refusal.TheVariants.{Memory}
use Rattle.meaning.specs.History.{replay}
use Rattle.rows.specs.Retained.{IsRetained, newest, snap_at}
use Rattle.zookie.specs.declared.Zookie.{Zookie}
use Rattle.zookie.specs.declared.consistency.Consistency.TheVariants.{Exactly}
use Rattle.zookie.specs.Fits.{IsFirstCause}
use Rattle.watch.specs.declared.watched.Namespaces.{Namespaces}
use Rattle.watch.specs.declared.watched.Namespaces.TheVariants.{All}
use Rattle.watch.specs.declared.watched.Page.{Page}
use Rattle.watch.specs.Watched.{IsPage}
use Rattle.watch.specs.Replays.{AreAlike, events_of}
use Rattle.shown.specs.Standing.{Standing}

-- The cursor is a retained revision of this store. The heartbeat is so many commits above it, or the newest revision, and
-- the events are all that the commits between the two have on tuples of the namespaces. Done in order on the tuples at the
-- cursor they give those at the heartbeat: the namespaces' own, and all of them where all are watched.
pub record IsWatched
    (s : Standing) (cursor : Zookie) (namespaces : Namespaces) (commits : ℕ) (page : Page) : Type 0 where
  pub of_store : cursor.store ≡ s.kept.number
  pub retained : IsRetained s.kept cursor.rev
  pub page_there : IsPage s.kept cursor.rev namespaces commits page
  pub replays :
      AreAlike namespaces (replay (snap_at s.kept cursor.rev).tuples (events_of page.events))
      (snap_at s.kept page.heartbeat).tuples
  pub replays_all :
      namespaces ≡ All → replay (snap_at s.kept cursor.rev).tuples (events_of page.events)
      ≡ (snap_at s.kept page.heartbeat).tuples

-- the first cause of the cursor, which asks for its own revision; or there was no memory
abbrev pub WatchRefused : Standing → Zookie → Refusal → Type 0
WatchRefused s cursor Memory = Unit {0}
WatchRefused s cursor why = IsFirstCause (Exactly cursor) s.kept.number s.kept.floor (newest s.kept) why
