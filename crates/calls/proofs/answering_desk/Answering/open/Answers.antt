use Rattle.calls.proofs.Beginning.{began_on}
use Rattle.calls.proofs.answering_desk.Answering.open.Goals as goal

pub returns-in-Ok-clause-ok : goal.returns-in-Ok-clause-ok
returns-in-Ok-clause-ok g c =
    let o = c.in-Ok.ensures in
    let s = c.of_desk.ensures in
    began_on g.T.Tables c.args.tables c.in-Ok.desk c.of_desk.result o.posted o.shown o.failed o.settled o.back s.more s.same
