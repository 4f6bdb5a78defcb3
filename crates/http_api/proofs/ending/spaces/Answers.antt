use Rattle.std.proofs.Common.{arith}
use Rattle.http_api.proofs.Endings.{spaces_next}
use Rattle.http_api.proofs.ending.spaces.Goals as goal

pub loop-b-preserved : goal.loop-b-preserved
loop-b-preserved c =
    let one = c.one_space-count.ensures in
    let next = spaces_next c.args.bytes.now c.loop-b.b-index c.loop-b-test.true in
    (omega (arith, next, c.loop-b.invariant.0, one.is), omega (arith, c.loop-b.invariant.1, one.small))
