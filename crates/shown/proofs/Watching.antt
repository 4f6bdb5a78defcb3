-- A page of a standing.
use Rattle.std.proofs.Common.{◌≡◌, ℕ, ◌≤◌, ◌+◌, List, sym, ap, ◌∙◌, subst, arith}
use Rattle.std.specs.Prelude.{min, Result, Ok, Err, IfOk, OnOk}
use Rattle.names.specs.declared.refusal.Refusal.{Refusal}
use Rattle.rows.specs.Retained.{Retained, IsRetained, newest, snap_at, commits_between}
use Rattle.zookie.specs.declared.Zookie.{Zookie}
use Rattle.meaning.specs.History.{replay}
use Rattle.watch.specs.declared.watched.Namespaces.{Namespaces}
use Rattle.watch.specs.declared.watched.Namespaces.TheVariants.{All}
use Rattle.watch.specs.declared.watched.WatchedEvent.{WatchedEvent}
use Rattle.watch.specs.declared.watched.Page.{Page}
use Rattle.watch.specs.Watched.{IsPage, watched as watched_between}
use Rattle.watch.specs.Replays.{AreAlike, events_of}
use Rattle.watch.proofs.Alike.{replays, replays_all}
use Rattle.shown.specs.Standing.{Standing}
use Rattle.shown.specs.Watching.{IsWatched}

-- the heartbeat is between the cursor and the newest revision
reaches : (from commits last heartbeat : ℕ) → from ≤ last → heartbeat ≡ min (from + commits) last → (from ≤ heartbeat) × (heartbeat ≤ last)
reaches from commits last heartbeat there is = (grind (arith, there, is), grind (arith, there, is))

-- where all namespaces are watched
module _ (r : Retained) (from to : ℕ) (n : Namespaces) (ws : List WatchedEvent) where
  all_of : r.floor ≤ from → from ≤ to → to ≤ newest r → ws ≡ watched_between n from (commits_between r from to) → n ≡ All
      → replay (snap_at r from).tuples (events_of ws) ≡ (snap_at r to).tuples
  all_of above order there is all =
      ap (λ (xs : List WatchedEvent). replay (snap_at r from).tuples (events_of xs)) (is ∙ ap (λ (m : Namespaces). watched_between m from (commits_between r from to)) all)
      ∙ replays_all r from to above order there

pub watched : (s : Standing) (cursor : Zookie) (n : Namespaces) (commits : ℕ) (page : Page) → cursor.store ≡ s.kept.number → IsRetained s.kept cursor.rev
    → IsPage s.kept cursor.rev n commits page → IsWatched s cursor n commits page
watched s cursor n commits page store retained is =
    let r : Retained = s.kept in
    let bounds = reaches cursor.rev commits (newest r) page.heartbeat retained.not_above is.heartbeat in
    record {
      of_store = store;
      retained = retained;
      page_there = is;
      replays =
          subst (λ (ws : List WatchedEvent). AreAlike n (replay (snap_at r cursor.rev).tuples (events_of ws)) (snap_at r page.heartbeat).tuples)
          (sym is.events) (replays r n cursor.rev page.heartbeat retained.not_below bounds.0 bounds.1);
      replays_all = all_of r cursor.rev page.heartbeat n page.events retained.not_below bounds.0 bounds.1 is.events;
    }

-- what the page of a cursor of this store is
pub told : (s : Standing) (cursor : Zookie) (n : Namespaces) (commits : ℕ) (r : Result Page Refusal) → cursor.store ≡ s.kept.number → OnOk r (IsRetained s.kept cursor.rev)
    → IfOk r (IsPage s.kept cursor.rev n commits) → IfOk r (IsWatched s cursor n commits)
told s cursor n commits (Ok page) store retained is = watched s cursor n commits page store retained is
told s cursor n commits (Err why) store retained is = is
