use Rattle.std.proofs.Common.{ap, sym}
use Rattle.std.specs.Prelude.{not}
use Rattle.versions.proofs.Admitted.{admits_known}
use Rattle.rows.proofs.verdict.is_unknown.Goals as goal

pub returns-in-Ok : goal.returns-in-Ok
returns-in-Ok c = ap not (sym (admits_known c.args.config.now c.args.op.now.tuple c.in-Ok.ensures.ok))
