use Rattle.runs.proofs.Connected.{goes_on}
use Rattle.runs.proofs.law.next_run_goes_on.Goals as goal

pub returns : goal.returns
returns c = λ image rs loaded posted holds begins opened. goes_on image rs loaded posted holds begins opened
