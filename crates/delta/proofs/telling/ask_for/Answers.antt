use Rattle.std.proofs.Common.{List, sym, subst}
use Rattle.names.specs.declared.node.Node.{Node}
use Rattle.facts.specs.inside.Tables.{grew_get}
use Rattle.delta.specs.Arcs.{AreEndsOf}
use Rattle.delta.proofs.Outcomes.{if_ok, ok_any}
use Rattle.delta.proofs.telling.ask_for.Goals as goal

pub returns-clause-told : goal.returns-clause-told
returns-clause-told g c = if_ok _ _ c.told_with.result
    (λ told tells. tells (g.A.CountedArcs.snap c.args.arcs.now) c.in_ok-node.node c.in_ok-node.ensures
    (subst (λ (ns : List Node). AreEndsOf (g.A.CountedArcs.snap c.args.arcs.now) c.in_ok-node.node ns) (sym c.deref.ensures.value) c.in_ok-ends.ensures.ends))
    c.told_with.ensures.told

pub returns-clause-asked : goal.returns-clause-asked
returns-clause-asked g c = ok_any c.told_with.result
    (c.in_ok-node.node, grew_get c.args.nodes.now c.told_with.new.nodes c.args.id c.in_ok-node.node c.told_with.ensures.more.grew c.in_ok-node.ensures, c.in_ok-ends.ensures.counted)
