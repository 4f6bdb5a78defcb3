use Rattle.leopard.specs.Groups.{Means}
use Rattle.leopard.proofs.First.{one_answer}
use Rattle.leopard.proofs.law.answers_are_one.Goals as goal

pub returns : goal.returns
returns c S q limit one other first second = one_answer limit (Means S q) one other first second
