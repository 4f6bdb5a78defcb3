use Rattle.std.proofs.Common.{List, true, false, ap, sym, ◌∙◌}
use Rattle.names.specs.declared.node.Node.{Node}
use Rattle.expand.specs.Tree.{is_among}
use Rattle.expand.proofs.Paths.{among_at}
use Rattle.expand.proofs.walk.Walk.is_open.Goals as goal

pub returns-then-eq : goal.returns-then-eq
returns-then-eq c =
    sym (among_at c.deref-open-items.result.now c.loop-open.open-index c.open-item.result c.args.node.now true c.loop-open-test.true c.open-item.is (sym c.if-eq.true ∙ c.eq.ensures))
    ∙ c.loop-open.invariant
    ∙ ap (λ (ns : List Node). is_among ns c.args.node.now) c.deref-open-items.ensures.value

pub loop-open-preserved : goal.loop-open-preserved
loop-open-preserved c =
    sym (among_at c.deref-open-items.result.now c.loop-open.open-index c.open-item.result c.args.node.now false c.loop-open-test.true c.open-item.is (sym c.if-eq.false ∙ c.eq.ensures))
    ∙ c.loop-open.invariant
