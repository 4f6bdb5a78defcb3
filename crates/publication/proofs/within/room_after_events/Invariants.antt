use Rattle.std.proofs.Common.{◌≡◌, ◌+◌, drop}
use Rattle.meaning.specs.History.{puts_in}
use Rattle.publication.proofs.within.room_after_events.Given as goal

-- what is left of the room and of the events differ as at first
abbrev pub invariant-loop-i : goal.invariant-loop-i
invariant-loop-i l = l.room + puts_in (drop l.i l.events) ≡ l.left + puts_in l.events
