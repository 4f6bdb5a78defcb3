use Rattle.std.proofs.Common.{subst}
use Rattle.std.specs.Prelude.{◌↔◌, IsTrue}
use Rattle.meaning.specs.Membership.{IsMember}
use Rattle.answer_cache.specs.Questions.{question}
use Rattle.answer_cache.proofs.law.answers_stay.Goals as goal

pub returns : goal.returns
returns c kept before after agree are revision n u b held =
    subst (λ S. IsTrue b ↔ IsMember S u n) (agree (question revision n u) b held) (are revision n u b held)
