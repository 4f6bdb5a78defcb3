use Rattle.config_text.proofs.Written.{types_done}
use Rattle.config_text.proofs.canonical.type_values.Goals as goal

pub returns : goal.returns
returns c = types_done c.args.types.now c.loop-declared.values.items c.loop-declared.declared-index c.loop-declared-test.false c.loop-declared.invariant
