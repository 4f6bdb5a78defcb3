use Rattle.std.proofs.Common.{take, subst, arith}
use Rattle.facts.proofs.Naming.{one_more, all_of}
use Rattle.direct.specs.inside.Keeping.{AreKept}
use Rattle.direct.proofs.memberships.Memberships.of.Goals as goal

pub loop-tuple-init : goal.loop-tuple-init
loop-tuple-init c = c.new-kept.ensures c.args.config.now

pub loop-tuple-preserved : goal.loop-tuple-preserved
loop-tuple-preserved c = subst (λ ts. AreKept c.args.config.now ts c.add.new.self)
    (one_more c.args.tuples.now c.loop-tuple.tuple-index c.tuple-item.result c.loop-tuple-test.true c.tuple-item.is)
    (c.in_ok-add.ensures (take c.loop-tuple.tuple-index c.args.tuples.now) c.loop-tuple.invariant)

pub returns : goal.returns
returns c = subst (λ ts. AreKept c.args.config.now ts c.loop-tuple.kept)
    (all_of c.args.tuples.now c.loop-tuple.tuple-index (omega (arith, c.loop-tuple-test.false))) c.loop-tuple.invariant
