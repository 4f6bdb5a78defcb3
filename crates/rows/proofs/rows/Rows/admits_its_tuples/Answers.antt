use Rattle.std.proofs.Common.{subst}
use Rattle.rows.specs.Retained.{IsAdmitted}
use Rattle.rows.proofs.Admitting.{newest_admitted}
use Rattle.rows.proofs.rows.Rows.admits_its_tuples.Goals as goal

pub returns-clause-each : goal.returns-clause-each
returns-clause-each c = subst IsAdmitted c.self.view_is c.self.invariant.admitted

pub returns-clause-newest : goal.returns-clause-newest
returns-clause-newest c = newest_admitted c.args.self.now (subst IsAdmitted c.self.view_is c.self.invariant.admitted)
