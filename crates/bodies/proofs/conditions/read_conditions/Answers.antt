use Rattle.std.proofs.Common.{sym, map}
use Rattle.serde_json.specs.View.{view}
use Rattle.bodies.specs.inside.Conditions.{ConditionsCause}
use Rattle.bodies.proofs.Causes.{exit}
use Rattle.bodies.proofs.AskedConditions.{condition_more, condition_bad, condition_refused}
use Rattle.bodies.proofs.conditions.read_conditions.Goals.{in-Some+in_ok-push-in-Some, in-None}
use Rattle.bodies.proofs.conditions.read_conditions.Goals as goal

pub returns-in_err-condition-clause-err : goal.returns-in_err-condition-clause-err
returns-in_err-condition-clause-err c =
    rw (sym c.deref-item-items.ensures.value) (exit (ConditionsCause (map view c.deref-item-items.result.now)) c.from_residual.result c.in_err-condition.field-0.0 c.from_residual.ensures.1
    (condition_refused _ _ c.item-item.result c.loop-item-test.true c.item-item.is c.in_err-condition.field-0.0 c.in_err-condition.ensures.err))

pub loop-item-preserved : goal.loop-item-preserved
loop-item-preserved c = elim c.match-branch-2.branch [
  | in-Some+in_ok-push-in-Some w ↦ rw (w.conditions-is, w.bad-is) (condition_more _ _ c.item-item.result c.loop-item-test.true c.item-item.is c.loop-item.conditions.items _ c.loop-item.bad w.in-Some.condition
      w.in_ok-push-in-Some.ensures.items c.loop-item.invariant (rw w.in-Some.is at c.in_ok-condition.ensures.ok))
  | in-None w ↦ rw (w.conditions-is, w.bad-is) (condition_bad _ _ c.item-item.result c.loop-item-test.true c.item-item.is c.loop-item.conditions.items c.loop-item.bad
      c.loop-item.invariant (rw w.in-None.is at c.in_ok-condition.ensures.ok))
]
