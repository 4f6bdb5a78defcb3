use Rattle.std.proofs.Common.{Some, refl}
use Rattle.by_subject.proofs.Pages.{has_it}
use Rattle.by_subject.proofs.reading.is_in.Goals as goal

pub returns : goal.returns
returns c = has_it (Some c.args.namespace.now) c.args.namespace.now c.args.object.now.namespace c.eq.result refl c.eq.ensures
