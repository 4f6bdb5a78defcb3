use Rattle.std.proofs.Common.{◌≡◌, true, false, refl}
use Rattle.std.specs.Prelude.{Bool}
use Rattle.std.proofs.lemmas.Bool.{false≢true}
use Rattle.meaning.specs.Snap.{Snap}
use Rattle.names.specs.declared.object.Object.{Object}
use Rattle.names.specs.declared.node.Node.{Node}
use Rattle.decide.specs.Answers.{IsAnswer}
use Rattle.decide.proofs.law.there_is_one_answer.Goals as goal

one_answer : (S : Snap) (u : Object) (n : Node) (a b : Bool) → IsAnswer S u n a → IsAnswer S u n b → a ≡ b
one_answer S u n true true x y = refl
one_answer S u n false false x y = refl
one_answer S u n true false x y = absurd (false≢true (y.1 (x.0 refl)))
one_answer S u n false true x y = absurd (false≢true (x.1 (y.0 refl)))

pub returns : goal.returns
returns c = one_answer
