use Rattle.std.proofs.Common.{refl}
use Rattle.runs.proofs.in_files.find_blank.Goals as goal

pub returns-in-Ok-2-clause-taken : goal.returns-in-Ok-2-clause-taken
returns-in-Ok-2-clause-taken g c = (refl, c.is_blank.ensures.no c.if-is_blank.false, c.in-Ok.ensures.sees)
