use Rattle.std.proofs.Common.{List, sym, subst}
use Rattle.names.specs.declared.node.Node.{Node}
use Rattle.delta.specs.Arcs.{AreEndsOf}
use Rattle.delta.proofs.Outcomes.{if_ok}
use Rattle.delta.proofs.telling.tell.Goals as goal

pub returns-clause-told : goal.returns-clause-told
returns-clause-told g c = if_ok _ _ c.told_with.result
    (λ told tells. tells (g.A.HasArcs.snap c.args.arcs.now) c.in_ok-node.node c.in_ok-node.ensures
    (subst (λ (ns : List Node). AreEndsOf (g.A.HasArcs.snap c.args.arcs.now) c.in_ok-node.node ns) (sym c.deref.ensures.value) c.in_ok-ends.ensures))
    c.told_with.ensures.told
