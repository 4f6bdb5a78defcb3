use Rattle.std.proofs.Common.{sym}
use Rattle.names.proofs.Readings.{read_part}
use Rattle.bodies.specs.Writing.{AsksOp}
use Rattle.bodies.proofs.Values.{read_more, read_refused}
use Rattle.bodies.proofs.ops.read_ops.Goals as goal

pub returns-in_err-op-clause-err : goal.returns-in_err-op-clause-err
returns-in_err-op-clause-err c =
    rw (sym c.deref-item-items.ensures.value) (read_part c.from_residual.result c.in_err-op.field-0.0 c.from_residual.ensures.1
    (λ refused. read_refused AsksOp _ _ c.item-item.result c.loop-item-test.true c.item-item.is refused) c.in_err-op.ensures.err)

pub loop-item-preserved : goal.loop-item-preserved
loop-item-preserved c =
    read_more AsksOp _ _ c.item-item.result c.loop-item-test.true c.item-item.is _ _ c.in_ok-op.op c.in_ok-push.ensures.items c.loop-item.invariant c.in_ok-op.ensures.ok
