use Rattle.region.specs.Tables.{over}
use Rattle.region.proofs.AfterChange.{IsReadyTo}
use Rattle.region.proofs.filling.ready_for.Given as goal

abbrev pub invariant-loop-t : goal.invariant-loop-t
invariant-loop-t l = IsReadyTo l.told l.t-index (over l.fn.fresh l.kept.rows) (over l.fresh l.kept.rows) l.ready
