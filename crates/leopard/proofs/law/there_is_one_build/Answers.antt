use Rattle.leopard.proofs.OneBuild.{one_build}
use Rattle.leopard.proofs.law.there_is_one_build.Goals as goal

pub returns : goal.returns
returns c = one_build
