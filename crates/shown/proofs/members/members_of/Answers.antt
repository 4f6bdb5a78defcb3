use Rattle.std.proofs.Common.{List, subst}
use Rattle.std.proofs.lemmas.List.{take_all}
use Rattle.names.specs.declared.node.Node.{Node}
use Rattle.shown.specs.inside.Basing.{AreMarked}
use Rattle.shown.proofs.Following.{done}
use Rattle.shown.proofs.MarkedNodes.{are_none, are_next}
use Rattle.shown.proofs.members.members_of.Goals as goal

pub loop-mark-init : goal.loop-mark-init
loop-mark-init c = record {
  hot = c.new-hot.ensures.hot _ c.each_view_is_valid.ensures;
  marked = are_none c.new-hot.result c.new-hot.ensures.marked;
}

pub loop-mark-preserved : goal.loop-mark-preserved
loop-mark-preserved c =
    let before = c.loop-mark.invariant in
    let has = done c.mark.result c.in_ok-ok.field-0 c.in_ok-ok.ensures.value c.mark.ensures.ok in
    record {
      hot = c.mark.ensures.hot before.hot;
      marked = are_next c.args.marks.now c.loop-mark.mark-index c.mark-item.result c.loop-mark.hot c.mark.new.self c.loop-mark-test.true c.mark-item.is before.marked (has before.hot);
    }

pub returns-clause-marked : goal.returns-clause-marked
returns-clause-marked c =
    subst (λ (ns : List Node). AreMarked ns c.loop-mark.hot) (take_all c.loop-mark.mark-index c.args.marks.now c.loop-mark-test.false) c.loop-mark.invariant.marked
