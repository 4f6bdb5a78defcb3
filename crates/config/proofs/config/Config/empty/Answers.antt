use Rattle.config.proofs.Keeping.{empty_is_config}
use Rattle.config.proofs.config.Config.empty.Goals as goal

pub invariant_of-result : goal.invariant_of-result
invariant_of-result c = rw c.new.ensures.items (rw c.new-2.ensures.items (rw c.new-3.ensures.items empty_is_config))
