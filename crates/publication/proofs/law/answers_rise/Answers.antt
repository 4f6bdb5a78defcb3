use Rattle.publication.proofs.Rising.{answers_rise}
use Rattle.publication.proofs.law.answers_rise.Goals as goal

pub returns : goal.returns
returns c = answers_rise
