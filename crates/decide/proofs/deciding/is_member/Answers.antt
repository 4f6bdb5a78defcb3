use Rattle.std.proofs.Common.{ℕ, subst}
use Rattle.std.specs.Prelude.{IfSome}
use Rattle.names.specs.declared.node.Node.{Node}
use Rattle.decide.specs.Answers.{IsAnswer}
use Rattle.decide.specs.inside.Searches.{IsNumberOf}
use Rattle.decide.proofs.Turns.{still_there}
use Rattle.decide.proofs.deciding.is_member.Goals as goal

pub returns-in-Some-clause-answer : goal.returns-in-Some-clause-answer
returns-in-Some-clause-answer g c n k number =
    let t = c.rounds.search in
    (subst (λ o. IfSome o (λ b. (n : Node) (k : ℕ) → IsNumberOf t c.args.root n k → IsAnswer c.args.facts.now c.args.user.now n b)) c.in-Some.is c.in_ok-answer.ensures.answer)
    n k (c.rounds.invariant.2 k n number)

pub rounds-preserved : goal.rounds-preserved
rounds-preserved g c = (
  c.in_ok-answer.ensures.running,
  still_there c.rounds.search c.round.new.search c.args.root (c.in_ok-answer.ensures.numbers c.args.root) c.rounds.invariant.1,
  λ k n number. c.in_ok-answer.ensures.numbers c.args.root k n (c.rounds.invariant.2 k n number),
  c.in_ok-answer.ensures.tells,
  c.in_ok-answer.ensures.read,
)
