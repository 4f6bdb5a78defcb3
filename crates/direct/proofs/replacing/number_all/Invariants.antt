use Rattle.std.proofs.Common.{take}
use Rattle.std.specs.Prelude.{Contains}
use Rattle.names.specs.declared.commit.Event.{Event}
use Rattle.direct.specs.Named.{IsDirect}
use Rattle.direct.specs.inside.Keeping.{IsMore, HasNumbers}
use Rattle.direct.specs.declared.memberships.Membership.{Membership}
use Rattle.direct.proofs.replacing.number_all.Given as goal

abbrev pub invariant-loop-event : goal.invariant-loop-event
invariant-loop-event l = record {
  more : IsMore l.initial.kept l.kept;
  numbers : (e : Event) → Contains (take l.event-index l.events) e → IsDirect l.config e.tuple → (m : Membership) × HasNumbers l.kept e.tuple m;
}
