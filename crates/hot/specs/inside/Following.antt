-- What was told of nodes, and follows the events of a commit.
use Rattle.std.specs.Prelude.{ℕ, ◌≡◌, true, not, ◌&&◌, ◌||◌, ◌⊎◌, List, Some, nat_eq}
use Rattle.std.specs.List.{slice_get}
use Rattle.names.specs.declared.object.Object.{Object}
use Rattle.names.specs.declared.node.Node.{Node}
use Rattle.names.specs.declared.commit.Event.{Event}
use Rattle.names.specs.declared.commit.EventKind.{EventKind}
use Rattle.names.specs.declared.commit.EventKind.TheVariants.{Put, Del}
use Rattle.meaning.specs.Snap.{Snap}
use Rattle.meaning.specs.History.{after_event}
use Rattle.least_sets.specs.World.{has, arcs_of}
use Rattle.region.specs.declared.rule.Told.{Told}
use Rattle.region.specs.Rules.{fact_of, shape_of}
use Rattle.region.specs.Tables.{Lists, listed}
use Rattle.facts.specs.Telling.{MayTell}
use Rattle.hot.specs.Kept.{Remembered, told_of}

-- the snapshot after one event
abbrev pub event_after : Snap → Event → Snap
event_after S e = record { config = S.config; tuples = after_event S.tuples e }

-- what is remembered may be told of the snapshot, and the table leads back to it from what it names
abbrev pub AreTellable : Snap → List Node → List Object → Lists → Remembered → Type 0
AreTellable S nodes users back memory = (n : ℕ) (t : Told) → told_of memory n ≡ Some t
    → MayTell S nodes users n (fact_of t) × ((m : ℕ) → has (arcs_of (fact_of t).shape) m ≡ true → listed back m n ≡ true)

-- whom a node holds by itself, after an event of such a kind on a tuple of it and the user
abbrev pub IsOwnAfter : EventKind → List Object → Object → (own own' : List ℕ) → Type 0
IsOwnAfter Put users user own own' = (number : ℕ) × (slice_get users number ≡ Some user) × ((k : ℕ) → has own' k ≡ (nat_eq k number || has own k))
IsOwnAfter Del users user own own' =
    ((number : ℕ) × (slice_get users number ≡ Some user) × ((k : ℕ) → has own' k ≡ (has own k && not (nat_eq k number))))
    ⊎ (((k : ℕ) → slice_get users k ≡ Some user → ⊥) × (own' ≡ own))

-- the same of a node, but for whom it holds by itself
pub record IsToldAfter (kind : EventKind) (users : List Object) (user : Object) (told told' : Told) : Type 0 where
  pub level : told'.level ≡ told.level
  pub rule : shape_of told'.rule ≡ shape_of told.rule
  pub own : IsOwnAfter kind users user told.own told'.own
