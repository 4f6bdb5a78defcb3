use Rattle.published.proofs.Rising.{rise}
use Rattle.published.proofs.law.revisions_rise.Goals as goal

pub returns : goal.returns
returns c = rise
