use Rattle.std.proofs.Common.{◌≡◌, take}
use Rattle.tuple_keys.proofs.kept_events.KeptEvents.events.Given as goal

abbrev pub invariant-loop-i : goal.invariant-loop-i
invariant-loop-i l = l.events.items ≡ take l.i l.self
