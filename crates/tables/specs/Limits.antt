-- Which histories can be loaded.
use Rattle.std.specs.Prelude.{◌≤◌}
use Rattle.names.specs.declared.limits.TheConstants.{MAX_REV, MAX_ROWS}
use Rattle.rows.specs.Ordered.{AreOrdered}
use Rattle.rows.specs.Retained.{Retained, newest, spans_of, IsAdmitted}

-- the limits of revisions and rows hold, each revision's tuples are admitted, and each commit's events are in order
pub record IsLoadable (r : Retained) : Type 0 where
  pub revs : newest r ≤ MAX_REV
  pub rows : spans_of r ≤ MAX_ROWS
  pub admitted : IsAdmitted r
  pub each_ordered : AreOrdered r.commits
