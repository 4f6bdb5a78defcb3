use Rattle.lookup.proofs.One.{lookups_one}
use Rattle.lookup.proofs.law.lookups_are_one.Goals as goal

pub returns : goal.returns
returns c = lookups_one
