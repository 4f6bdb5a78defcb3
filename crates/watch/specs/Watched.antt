-- The events between two revisions (Zanzibar, section 2.4.3).
use Rattle.std.specs.Prelude.{◌≡◌, ◌<◌, ◌+◌, ℕ, Bool, true, List, [], ◌∷◌, ◌++◌, map, filter, min}
use Rattle.std.specs.Prelude.{nat_eq}
use Rattle.std.specs.List.{list_any}
use Rattle.std.specs.List.Sorted.{IsStrictlySortedBy}
use Rattle.std.specs.Ordering.{nat_cmp, ordering_then}
use Rattle.std.specs.declared.cmp.Ordering.{Ordering}
use Rattle.std.specs.Cmp.Lexicographic.{pointwise}
use Rattle.names.specs.Order.{tuple_cmp}
use Rattle.names.specs.declared.tuple.Tuple.{Tuple}
use Rattle.names.specs.declared.commit.Event.{Event}
use Rattle.names.specs.declared.commit.Commit.{Commit}
use Rattle.names.specs.declared.commit.Commit.TheVariants.{Tuples, Config}
use Rattle.names.specs.declared.refusal.Refusal.{Refusal}
use Rattle.names.specs.declared.refusal.Refusal.TheVariants.{Future, Expired, Memory}
use Rattle.meaning.specs.Config.{Configured}
use Rattle.meaning.specs.History.{History}
use Rattle.rows.specs.Retained.{Retained, newest, commits_between}
use Rattle.watch.specs.declared.watched.Namespaces.{Namespaces}
use Rattle.watch.specs.declared.watched.Namespaces.TheVariants.{All, These}
use Rattle.watch.specs.declared.watched.WatchedEvent.{WatchedEvent}
use Rattle.watch.specs.declared.watched.Page.{Page}

-- the name is one of these
abbrev pub is_among : List (List ℕ) → List ℕ → Bool
is_among names name = list_any (pointwise nat_eq name) names

-- the tuple's object is of one of the namespaces
abbrev pub is_watched : Namespaces → Tuple → Bool
is_watched All t = true
is_watched (These names) t = is_among names t.node.object.namespace

-- those of the events that are watched, at their revision
abbrev pub watched_of : Namespaces → ℕ → List Event → List WatchedEvent
watched_of n rev events = map (λ e. record { rev = rev; event = e }) (filter (λ e. is_watched n e.tuple) events)

-- a configuration has no events
abbrev pub watched_in : Namespaces → ℕ → Commit Configured → List WatchedEvent
watched_in n rev (Tuples events) = watched_of n rev events
watched_in n rev (Config config) = []

-- the events of the commits above a revision
abbrev pub watched : Namespaces → ℕ → History → List WatchedEvent
watched n above [] = []
watched n above (c ∷ cs) = watched_in n (above + 1) c ++ watched n (above + 1) cs

-- by revision, and those of one revision by tuple
abbrev pub watched_cmp : WatchedEvent → WatchedEvent → Ordering
watched_cmp v w = ordering_then (nat_cmp v.rev w.rev) (tuple_cmp v.event.tuple w.event.tuple)

-- The heartbeat is so many commits above the cursor, or the newest revision, and the events are all that are watched
-- between the two: in order, and none twice.
pub record IsPage (r : Retained) (cursor : ℕ) (n : Namespaces) (commits : ℕ) (page : Page) : Type 0 where
  pub heartbeat : page.heartbeat ≡ min (cursor + commits) (newest r)
  pub events : page.events ≡ watched n cursor (commits_between r cursor page.heartbeat)
  pub ordered : IsStrictlySortedBy watched_cmp page.events

-- the cursor is above the newest revision, or below the floor; or there was no memory
abbrev pub PageRefused : Retained → ℕ → Refusal → Type 0
PageRefused r cursor Future = newest r < cursor
PageRefused r cursor Expired = cursor < r.floor
PageRefused r cursor Memory = Unit {0}
PageRefused r cursor _ = ⊥
