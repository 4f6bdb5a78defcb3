use Rattle.std.proofs.Common.{◌∙◌}
use Rattle.std.proofs.lemmas.Result.{err_from_is_err_and}
use Rattle.tracked_io.proofs.Appending.{so_far_next, some_of_next}
use Rattle.tracked_io.proofs.writing.put_parts.Goals as goal

pub returns-in_err-put : goal.returns-in_err-put
returns-in_err-put g c =
    let p = err_from_is_err_and c.from_residual.result c.from_residual.ensures.1 in
    rw p.1 (record {
      wrote = some_of_next _ _ _ _ c.args.parts.now c.loop-part.part-index _ c.loop-part-test.true c.loop-part.invariant.0 c.in_err-put.ensures.wrote;
      failed = c.in_err-put.ensures.failed;
    })

pub loop-part-preserved : goal.loop-part-preserved
loop-part-preserved g c = (so_far_next _ _ _ _ c.args.parts.now c.loop-part.part-index _ c.loop-part-test.true c.loop-part.invariant.0 c.in_ok-put.ensures.wrote, c.in_ok-put.ensures.failed ∙ c.loop-part.invariant.1)
