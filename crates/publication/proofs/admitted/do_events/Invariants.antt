use Rattle.std.proofs.Common.{◌≡◌, drop}
use Rattle.meaning.specs.History.{replay}
use Rattle.publication.proofs.admitted.do_events.Given as goal

-- with the events that are left, it is the whole
abbrev pub invariant-loop-event : goal.invariant-loop-event
invariant-loop-event l = record {
  config : l.snapshot.config ≡ l.initial.snapshot.config;
  tuples : replay l.snapshot.tuples (drop l.event-index l.events) ≡ replay l.initial.snapshot.tuples l.events;
}
