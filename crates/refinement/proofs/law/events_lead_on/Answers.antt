use Rattle.refinement.proofs.Leading.{on, after}
use Rattle.refinement.proofs.law.events_lead_on.Goals as goal

pub returns-clause-on : goal.returns-clause-on
returns-clause-on c = on

pub returns-clause-after : goal.returns-clause-after
returns-clause-after c = after
