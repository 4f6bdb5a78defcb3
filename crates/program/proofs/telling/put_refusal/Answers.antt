use Rattle.std.specs.Prelude.{codes}
use Rattle.program.specs.Telling.{cause_text}
use Rattle.program.proofs.Told.{after, some_then}
use Rattle.program.proofs.telling.put_refusal.Goals as goal

pub returns-in-Ok-clause-wrote : goal.returns-in-Ok-clause-wrote
returns-in-Ok-clause-wrote g c = after c.put_cause.result _ _ _ (codes "zanz: refused ") (cause_text c.args.number c.args.name.now) c.in-Ok.ensures.wrote c.put_cause.ensures.wrote

pub returns-in-Err-clause-wrote : goal.returns-in-Err-clause-wrote
returns-in-Err-clause-wrote g c = some_then _ _ (codes "zanz: refused ") (cause_text c.args.number c.args.name.now) c.in-Err.ensures.wrote
