use Rattle.std.proofs.Common.{sym, ◌∙◌, ap}
use Rattle.std.proofs.lemmas.Result.{IfOk-weaker}
use Rattle.meaning.specs.Snap.{Snap}
use Rattle.meaning.specs.TupleSet as set
use Rattle.direct.proofs.direct.Direct.restart.Goals as goal

pub returns-clause-direct : goal.returns-clause-direct
returns-clause-direct c = IfOk-weaker c.begun.result _ _
    (λ direct is snaps at. is snaps (c.config.ensures.config ∙ ap (λ (S : Snap). S.config) (sym at)) (c.deref.ensures.value ∙ c.in_ok-tuples.ensures ∙ ap (λ (S : Snap). set.items S.tuples) (sym at)))
    c.begun.ensures.direct
