use Rattle.sqlite_store.specs.Laws.{stays_at}
use Rattle.runs.proofs.Left.{was_clean, holds_alone, holds_committed}
use Rattle.runs.proofs.files.close.Goals as goal

pub returns-in-Ok-clause-closed : goal.returns-in-Ok-clause-closed
returns-in-Ok-clause-closed g c = λ clean r keeps left may.
    let copied = c.in-Ok.ensures.copied clean in
    let kept = keeps copied.was_clean copied.was_open in
    holds_alone left _ _ r kept.committed kept.held (copied.left left may)

pub returns-in-Err-clause-refused : goal.returns-in-Err-clause-refused
returns-in-Err-clause-refused g c = λ clean rs leaves trees may.
    let quiet = c.in-Err.ensures.err.0.quiet in
    leaves (was_clean _ _ quiet.clean clean) trees (quiet.outcomes trees may)

pub returns-in-Ok-clause-left : goal.returns-in-Ok-clause-left
returns-in-Ok-clause-left g c = λ clean rs leaves left may.
    let copied = c.in-Ok.ensures.copied clean in
    holds_committed left _ rs (leaves copied.was_clean _ (stays_at c.args.conn.store g.met.D.Disk.seen_may_stay copied.was_open)) (copied.left left may)
