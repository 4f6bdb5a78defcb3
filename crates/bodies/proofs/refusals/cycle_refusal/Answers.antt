use Rattle.bodies.proofs.Refusing.{value_plain}
use Rattle.bodies.proofs.refusals.cycle_refusal.Goals as goal

pub say-requires : goal.say-requires
say-requires c = value_plain c.args.steps.now c.cycle_value.result c.cycle_value.ensures
