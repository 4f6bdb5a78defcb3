use Rattle.publication.proofs.InOrder.{posts_stored}
use Rattle.publication.proofs.law.posts_stored.Goals as goal

pub returns : goal.returns
returns c = posts_stored
