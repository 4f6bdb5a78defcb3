use Rattle.program.specs.Telling.{fault_line}
use Rattle.program.proofs.Told.{handed_on}
use Rattle.program.proofs.telling.say_fault.Goals as goal

pub returns-clause-wrote : goal.returns-clause-wrote
returns-clause-wrote g c = handed_on c.flush.result c.args.errors.now.taken _ _ (fault_line c.args.fault.now) c.in_ok-put_fault.ensures.wrote c.flush.ensures.taken
