use Rattle.std.proofs.Common.{◌≡◌, take}
use Rattle.std.specs.Prelude.{string_bytes}
use Rattle.std.specs.List.{AllByRecursion}
use Rattle.names.specs.Spelling.{IsTuple}
use Rattle.tuple_keys.specs.Packed.{text_of, ends_of}
use Rattle.tuple_keys.proofs.kept_events.KeptEvents.of.Given as goal

abbrev pub invariant-loop-event : goal.invariant-loop-event
invariant-loop-event l = record {
  text : string_bytes l.text ≡ text_of (take l.event-index l.events);
  ends : l.ends.items ≡ ends_of 0 (take l.event-index l.events);
  tuples : AllByRecursion (λ e. IsTuple e.tuple) (take l.event-index l.events);
}
