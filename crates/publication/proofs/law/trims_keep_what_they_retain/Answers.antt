use Rattle.publication.proofs.Raising.{keeps_retained}
use Rattle.publication.proofs.law.trims_keep_what_they_retain.Goals as goal

pub returns : goal.returns
returns c = keeps_retained
