use Rattle.std.proofs.Common.{◌≡◌, ◌++◌, drop, map}
use Rattle.rows.specs.Follows.{touch_of}
use Rattle.rows.proofs.refusing.touches_of.Given as goal

-- what is made and what is left are all
abbrev pub invariant-loop-event : goal.invariant-loop-event
invariant-loop-event l = l.ops.items ++ map touch_of (drop l.event-index l.events) ≡ map touch_of l.events
