use Rattle.std.proofs.Common.{◌≡◌, take}
use Rattle.store.proofs.placed_event.events_in.Given as goal

abbrev pub invariant-loop-one : goal.invariant-loop-one
invariant-loop-one l = l.events.items ≡ take l.one-index l.placed
