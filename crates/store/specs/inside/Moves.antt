-- The events of a revision, span by span.
use Rattle.std.proofs.Common.{zero, suc}
use Rattle.std.specs.Prelude.{◌≡◌, ◌<◌, ◌+◌, ℕ, Option, map, length, ◌==◌, ◌&&◌, List, [], ◌∷◌, ◌++◌, Bool, true, false, cond, not}
use Rattle.std.specs.Global.{Vec}
use Rattle.names.specs.Order.{is_same_tuple}
use Rattle.names.specs.declared.commit.Event.{Event}
use Rattle.names.specs.declared.commit.EventKind.{EventKind}
use Rattle.names.specs.declared.commit.EventKind.TheVariants.{Put, Del}
use Rattle.names.specs.declared.tuple.Tuple.{Tuple}
use Rattle.names.specs.declared.commit.Commit.{Commit}
use Rattle.meaning.specs.Config.{Configured}
use Rattle.std.specs.List.{list_any}
use Rattle.store.specs.Written.{TupleSpan, is_moved, is_one, commit_of, events_at}

abbrev pub put_of : TupleSpan → Event
put_of l = record { tuple = l.tuple; kind = Put }

abbrev pub del_of : TupleSpan → Event
del_of l = record { tuple = l.tuple; kind = Del }

-- the next span is of the same tuple, and begins where this one ends
abbrev pub goes_on : TupleSpan → List TupleSpan → Bool
goes_on l [] = false
goes_on l (m ∷ ls) = is_same_tuple l.tuple m.tuple && (m.added == l.removed)

abbrev pub event_if : Bool → Event → List Event
event_if b e = cond b (e ∷ []) []

-- each span's beginning, and its end where the tuple does not go on
abbrev pub moves : ℕ → List TupleSpan → List Event
moves rev [] = []
moves rev (l ∷ ls) = event_if (l.added == rev) (put_of l) ++ (event_if ((l.removed == rev) && not (goes_on l ls)) (del_of l) ++ moves rev ls)

-- the events at one place, or none past the end
abbrev pub slot : List (Vec Event) → ℕ → List Event
slot [] k = []
slot (v ∷ vs) zero = v.items
slot (v ∷ vs) (suc k) = slot vs k

-- at each place these events come after those that were there
abbrev pub Adds : List (Vec Event) → List (Vec Event) → (ℕ → List Event) → Type 0
Adds old new more = (k : ℕ) → k < length old → slot new k ≡ slot old k ++ more k

-- the event stands at its revision's place above the floor
abbrev pub event_at_place : ℕ → ℕ → Tuple → EventKind → ℕ → List Event
event_at_place floor rev t kind k = event_if (rev == floor + (k + 1)) (record { tuple = t; kind = kind })

-- the span's beginning comes after those that were there, and then its end, where the tuple does not go on
abbrev pub AddsSpan : List (Vec Event) → List (Vec Event) → ℕ → TupleSpan → Bool → Type 0
AddsSpan old new floor l on = (k : ℕ) → k < length old
    → slot new k ≡ (slot old k ++ event_if (l.added == floor + (k + 1)) (put_of l)) ++ event_if ((l.removed == floor + (k + 1)) && not on) (del_of l)

-- each place has the events of its revision above the floor
abbrev pub HasMoves : ℕ → List TupleSpan → List (Vec Event) → Type 0
HasMoves floor spans slots = (k : ℕ) → k < length slots → slot slots k ≡ moves (floor + (k + 1)) spans

abbrev pub tuples_in : List Event → List Tuple
tuples_in es = map (λ e. e.tuple) es

-- the commit is the revision's, where the revision brings this configuration or none
pub record IsCommit (rev : ℕ) (spans : List TupleSpan) (config : Option Configured) (c : Commit Configured) : Type 0 where
  pub is : c ≡ commit_of config (events_at rev spans)
  pub one : is_one config (list_any (is_moved rev) spans) ≡ true

-- so it is of any spans of which the revision's events are these
abbrev pub IsCommitAt : ℕ → Option Configured → List Event → Commit Configured → Type 0
IsCommitAt rev config events c = (spans : List TupleSpan) → events ≡ moves rev spans → IsCommit rev spans config c

abbrev pub IsCommitOf : Option Configured → List Event → Commit Configured → Type 0
IsCommitOf config events c = (rev : ℕ) (spans : List TupleSpan) → events ≡ moves rev spans → IsCommit rev spans config c
