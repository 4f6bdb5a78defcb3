use Rattle.std.proofs.Common.{◌-◌, get_or, arith}
use Rattle.std.proofs.lemmas.List.{get_or_default}
use Rattle.std.proofs.lemmas.List.Edits.{map_over_more}
use Rattle.shelf.proofs.block.lower.Goals as goal

pub loop-end-preserved : goal.loop-end-preserved
loop-end-preserved c =
    map_over_more (λ end. end - c.args.by) c.args.ends.now c.loop-end.ends c.loop-end.end-index (get_or c.loop-end.ends c.loop-end.end-index 0) (omega arith) c.loop-end.invariant (get_or_default c.loop-end.ends c.loop-end.end-index 0 _ (omega arith))
