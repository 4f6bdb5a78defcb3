use Rattle.publication.proofs.Limits.{within_is}
use Rattle.publication.proofs.Opening.{within_of}
use Rattle.publication.proofs.law.opens_what_is_within.Goals as goal

pub returns : goal.returns
returns c = λ l. (within_is l, within_of l)
