-- Which commits can follow: those that some accepted write gives, and configurations that are accepted.
use Rattle.std.specs.Prelude.{◌≡◌, ◌↔◌, List, map, not, Option, None, IsPermutation, IsSorted}
use Rattle.std.specs.declared.cmp.Ordering.{Ordering}
use Rattle.names.specs.Order.{tuple_cmp}
use Rattle.names.specs.declared.write.Op.{Op}
use Rattle.names.specs.declared.write.OpKind.{OpKind}
use Rattle.names.specs.declared.write.OpKind.TheVariants.{Touch, Delete}
use Rattle.names.specs.declared.commit.Event.{Event}
use Rattle.names.specs.declared.commit.EventKind.{EventKind}
use Rattle.names.specs.declared.commit.EventKind.TheVariants.{Put, Del}
use Rattle.names.specs.declared.commit.Commit.{Commit}
use Rattle.names.specs.declared.commit.Commit.TheVariants as kinds
use Rattle.names.specs.declared.refusal.Refusal.{Refusal}
use Rattle.names.specs.declared.refusal.Refusal.TheVariants.{Malformed}
use Rattle.meaning.specs.Config.{Configured}
use Rattle.meaning.specs.Verdict.{Newest, event_of, or_else, refused_if, write_cause, config_cause}
use Rattle.rows.specs.Ordered.{is_in_order}
use Rattle.rows.specs.Retained.{Retained, newest_of}

-- by tuple
abbrev pub by_tuple : Event → Event → Ordering
by_tuple a b = tuple_cmp a.tuple b.tuple

-- the events of the operations, in the order of their tuples
pub record AreEventsOf (ops : List Op) (events : List Event) : Type 0 where
  pub same : IsPermutation (map event_of ops) events
  pub ordered : IsSorted by_tuple events

-- nothing speaks against the operations
abbrev pub IsAccepted : Newest → List Op → Type 0
IsAccepted newest ops = write_cause newest ops ≡ None

-- some accepted write gives the events
abbrev pub IsWritten : Newest → List Event → Type 0
IsWritten n events = (ops : List Op) × AreEventsOf ops events × IsAccepted n ops

abbrev pub touch_kind : EventKind → OpKind
touch_kind Put = Touch
touch_kind Del = Delete

-- the operation that gives the event and asks least: a put may be a touch
abbrev pub touch_of : Event → Op
touch_of e = record { kind = touch_kind e.kind; tuple = e.tuple }

-- why no write or configuration is accepted that gives the commit, or nothing
abbrev pub commit_cause : Newest → Commit Configured → Option Refusal
commit_cause n (kinds.Tuples events) = or_else (refused_if Malformed (not (is_in_order events))) (write_cause n (map touch_of events))
commit_cause n (kinds.Config config) = config_cause n config

-- events follow where some accepted write gives them, and nowhere else
abbrev pub FollowsWhereWritten : Newest → List Event → Type 0
FollowsWhereWritten n events = (commit_cause n (kinds.Tuples events) ≡ None) ↔ IsWritten n events

-- the commit can follow the history's newest
abbrev pub IsNext : Retained → Commit Configured → Type 0
IsNext r commit = commit_cause (newest_of r) commit ≡ None
