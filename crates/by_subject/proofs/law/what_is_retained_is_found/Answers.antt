use Rattle.by_subject.proofs.Origins.{covers}
use Rattle.by_subject.proofs.law.what_is_retained_is_found.Goals as goal

pub returns : goal.returns
returns c = covers
