use Rattle.std.proofs.Common.{⊎_elim}
use Rattle.hot.proofs.Remembered.{before_or_at}
use Rattle.hot.proofs.remembering.forget_of.Goals as goal

pub loop-id-preserved : goal.loop-id-preserved
loop-id-preserved c = λ n t at.
    let one = c.forget_if.ensures n t at in
    let was = c.loop-id.invariant n t one.0 in
    (was.0, λ h. ⊎_elim was.1 one.1 (before_or_at c.args.ids.now c.loop-id.id-index n c.loop-id-test.true h))
