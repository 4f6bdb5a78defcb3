use Rattle.std.proofs.Common.{arith}
use Rattle.std.specs.Cmp.Lexicographic.{same_text, other_text}
use Rattle.plain.proofs.Candidates.{gains_none, gains_push}
use Rattle.plain.proofs.levels.push_nodes.Goals as goal
use Rattle.plain.proofs.levels.push_nodes.Goals.{then-levels-i+then-eq+in_ok-push_node, then-levels-i+else-eq, else-levels-i}

pub loop-i-preserved : goal.loop-i-preserved
loop-i-preserved c =
    elim c.if-levels-i.branch [
      | then-levels-i+then-eq+in_ok-push_node w ↦
          rw (w.nodes-is, w.in_ok-push_node.ensures)
          (gains_push c.args.source.now c.loop-i.i c.args.level c.relation-item.result (omega arith) c.relation-item.is c.args.object.now c.args.nodes.now.items c.loop-i.nodes.items c.loop-i.invariant w.if-levels-i.true (same_text _ _ w.if-eq.ensures))
      | then-levels-i+else-eq w ↦
          rw w.nodes-is
          (gains_none c.args.source.now c.loop-i.i c.args.level c.relation-item.result (omega arith) c.relation-item.is c.args.object.now c.args.nodes.now.items c.loop-i.nodes.items c.loop-i.invariant (λ at named. other_text _ _ w.if-eq.ensures named))
      | else-levels-i w ↦
          rw w.nodes-is
          (gains_none c.args.source.now c.loop-i.i c.args.level c.relation-item.result (omega arith) c.relation-item.is c.args.object.now c.args.nodes.now.items c.loop-i.nodes.items c.loop-i.invariant (λ at named. w.if-levels-i.false at))
    ]
