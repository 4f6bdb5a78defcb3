use Rattle.store.proofs.Alike.{IsSince}
use Rattle.store.proofs.kinds.since_of.Given as goal

abbrev pub invariant-loop-since : goal.invariant-loop-since
invariant-loop-since l = IsSince l.configs l.tuple l.since

abbrev pub decreases-loop-since : goal.decreases-loop-since
decreases-loop-since l = l.since
