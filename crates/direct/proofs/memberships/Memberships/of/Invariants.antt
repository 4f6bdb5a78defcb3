use Rattle.std.proofs.Common.{take}
use Rattle.direct.specs.inside.Keeping.{AreKept}
use Rattle.direct.proofs.memberships.Memberships.of.Given as goal

abbrev pub invariant-loop-tuple : goal.invariant-loop-tuple
invariant-loop-tuple l = AreKept l.config (take l.tuple-index l.tuples) l.kept
