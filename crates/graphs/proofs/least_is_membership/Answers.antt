use Rattle.graphs.proofs.Memberships.{membership}
use Rattle.graphs.proofs.least_is_membership.Goals as goal

pub returns : goal.returns
returns c = membership
