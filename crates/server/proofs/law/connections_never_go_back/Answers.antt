use Rattle.keeper.specs.Fronts.{FrontStep}
use Rattle.server.proofs.NeverBack.{attended_stays, each_stays}
use Rattle.server.proofs.law.connections_never_go_back.Goals as goal

pub returns-clause-one : goal.returns-clause-one
returns-clause-one g c = λ s t end took. attended_stays (FrontStep g.T.Tables g.J.Naming.book g.J.KeeperName.starts) (λ s call body told t may. may.never_back) s end t took

pub returns-clause-each : goal.returns-clause-each
returns-clause-each g c = λ s t ends took. each_stays (FrontStep g.T.Tables g.J.Naming.book g.J.KeeperName.starts) (λ s call body told t may. may.never_back) s ends t took
