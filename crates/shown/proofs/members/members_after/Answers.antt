use Rattle.std.proofs.Common.{List, sym, subst}
use Rattle.std.specs.Prelude.{Option, IfSome}
use Rattle.hot.specs.declared.hot.Hot.{Hot}
use Rattle.names.specs.declared.node.Node.{Node}
use Rattle.shown.specs.inside.Basing.{AreMarked}
use Rattle.shown.proofs.members.members_after.Goals as goal

pub returns-in-Some-clause-marked : goal.returns-in-Some-clause-marked
returns-in-Some-clause-marked c before once are is =
    subst (λ (ns : List Node). IfSome c.remarked.result (λ hot. AreMarked ns hot)) (sym is)
    (c.remarked.ensures.marked before once (subst (λ (o : Option Hot). IfSome o (λ hot. AreMarked before hot)) c.in-Some.is are))

pub returns-in-None-clause-marked : goal.returns-in-None-clause-marked
returns-in-None-clause-marked c before once are is = c.members_of.ensures.marked
