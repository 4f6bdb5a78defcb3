use Rattle.config_text.proofs.Written.{forms_done}
use Rattle.config_text.proofs.canonical.+written.Goals as goal

pub rewrite_values-returns : goal.rewrite_values-returns
rewrite_values-returns t c = forms_done c.args.parts.now c.loop-part.values.items c.loop-part.part-index c.loop-part-test.false c.loop-part.invariant
