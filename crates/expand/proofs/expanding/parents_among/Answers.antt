use Rattle.std.proofs.Common.{List, Vec, ap, sym, ◌∙◌, map}
use Rattle.std.specs.List.{filter_map}
use Rattle.std.specs.Global.{Global}
use Rattle.names.specs.declared.node.Node.{Node}
use Rattle.names.specs.declared.tuple.Tuple.{Tuple}
use Rattle.expand.specs.Tree.{parent}
use Rattle.expand.proofs.Relations.{parent_more, parent_less}
use Rattle.expand.proofs.expanding.parents_among.Goals.{in-Some+in_ok-push-in-Some, in-None}
use Rattle.expand.proofs.expanding.parents_among.Goals as goal

pub loop-tuple-preserved : goal.loop-tuple-preserved
loop-tuple-preserved c =
    let h = parent c.args.source.now.view.now.config c.args.relation.now in
    let ts = c.args.tuples.now in
    let old = c.loop-tuple.parents.items in
    let now = c.match-branch-2.parents.items in
    let all : List Node = filter_map h (map (λ (t : Tuple). t.subject) ts) in
    elim c.match-branch-2.branch [
      | in-Some+in_ok-push-in-Some w ↦ parent_more h ts c.loop-tuple.tuple-index c.tuple-item.result c.loop-tuple-test.true c.tuple-item.is old now all w.in-Some.parent
          (sym c.in_ok-parent.ensures ∙ w.in-Some.is) (ap (λ (v : Vec Node Global). v.items) w.parents-is ∙ w.in_ok-push-in-Some.ensures.items) c.loop-tuple.invariant
      | in-None w ↦ parent_less h ts c.loop-tuple.tuple-index c.tuple-item.result c.loop-tuple-test.true c.tuple-item.is old now all
          (sym c.in_ok-parent.ensures ∙ w.in-None.is) (ap (λ (v : Vec Node Global). v.items) w.parents-is) c.loop-tuple.invariant
    ]
