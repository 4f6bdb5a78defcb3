use Rattle.program.proofs.Ending.{closed_by, ends_well}
use Rattle.program.proofs.process.closed.Goals as goal

pub returns-in-Ok : goal.returns-in-Ok
returns-in-Ok g c = ends_well c.in-Ok.conn c.args.status c.args.left c.close.result c.if-status-ne0.false c.in-Ok.is (closed_by c.in-Ok.conn c.close.result c.close.ensures.closed c.close.ensures.left c.close.ensures.refused)
