use Rattle.tracked_io.proofs.Appending.{so_far_more}
use Rattle.std.proofs.Common.{◌∙◌}
use Rattle.tracked_io.proofs.writing.put.Goals as goal

pub loop-rest-preserved : goal.loop-rest-preserved
loop-rest-preserved g c = (so_far_more _ _ _ _ _ c.in_ok-n.n c.loop-rest.invariant.0 c.in_ok-n.ensures.taken, c.in_ok-n.ensures.failed ∙ c.loop-rest.invariant.1)
