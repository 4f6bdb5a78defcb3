use Rattle.expand.proofs.Meanings.{tree_means}
use Rattle.expand.proofs.law.a_tree_means_its_members.Goals as goal

pub returns : goal.returns
returns c = tree_means
