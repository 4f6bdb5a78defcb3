use Rattle.strata.proofs.Answering.{one_kind}
use Rattle.strata.proofs.never_both.Goals as goal

pub returns : goal.returns
returns c = one_kind
