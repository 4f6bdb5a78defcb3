use Rattle.std.proofs.Common.{◌∙◌}
use Rattle.leopard.proofs.Inputs.{tuples_are, snap_is}
use Rattle.leopard.proofs.input.Input.copy.Goals as goal

pub invariant_of-result : goal.invariant_of-result
invariant_of-result c = tuples_are c.args.view.now c.in_ok-config.config c.in_ok-tuples.tuples.items (c.in_ok-config.ensures ∙ c.config-config.ensures.config) c.config-config.ensures.admitted c.in_ok-tuples.ensures

pub returns : goal.returns
returns c = snap_is c.args.view.now c.in_ok-config.config c.in_ok-tuples.tuples.items (c.in_ok-config.ensures ∙ c.config-config.ensures.config) c.in_ok-tuples.ensures
