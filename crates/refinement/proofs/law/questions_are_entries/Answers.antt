use Rattle.std.specs.Prelude.{Ok, Err}
use Rattle.refinement.proofs.Asking.{enters}
use Rattle.refinement.proofs.law.questions_are_entries.Goals as goal

pub returns-clause-told : goal.returns-clause-told
returns-clause-told c = λ posted shown question answer are beginning is. enters posted shown question (Ok answer) are beginning is

pub returns-clause-refused : goal.returns-clause-refused
returns-clause-refused c = λ posted shown question refused are beginning is other. enters posted shown question (Err refused) are beginning (is, other)
