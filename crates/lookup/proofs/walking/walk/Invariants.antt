use Rattle.std.proofs.Common.{◌-◌}
use Rattle.lookup.proofs.Stepping.{IsWalked}
use Rattle.lookup.proofs.walking.walk.Given as goal

abbrev pub invariant-nodes : goal.invariant-nodes
invariant-nodes l = IsWalked l.config l.subjects l.user l.reached l.next

abbrev pub decreases-nodes : goal.decreases-nodes
decreases-nodes l = l.most - l.next
