use Rattle.by_subject.proofs.Origins.{without_one}
use Rattle.by_subject.proofs.law.it_is_complete_without_the_newest_commit.Goals as goal

pub returns : goal.returns
returns c = without_one
