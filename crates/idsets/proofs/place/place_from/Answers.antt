use Rattle.std.proofs.Common.{◌+◌, ◌-◌, arith}
use Rattle.idsets.proofs.Placing.{below_to, from_to}
use Rattle.idsets.proofs.place.place_from.Goals as goal

pub place_between-requires-clause-from : goal.place_between-requires-clause-from
place_between-requires-clause-from c =
    from_to c.args.ids.now c.args.id (c.steps.low + (c.steps.step - 1)) c.requires.ascending (omega (arith, c.steps.invariant.some, c.steps-test.true)) c.if-ids-last.true

pub steps-preserved : goal.steps-preserved
steps-preserved c = record {
  within = omega (arith, c.steps.invariant.some, c.steps-test.true);
  some = omega (arith, c.steps.invariant.some, c.saturating_mul-step.ensures);
  below = below_to c.args.ids.now c.args.id (c.steps.low + (c.steps.step - 1)) c.requires.ascending (omega (arith, c.steps.invariant.some, c.steps-test.true)) c.if-ids-last.false;
}
