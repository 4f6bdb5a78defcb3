use Rattle.std.specs.Prelude.{Contains}
use Rattle.names.specs.declared.node.Node.{Node}
use Rattle.lookup.specs.inside.Walking.{Grew}
use Rattle.lookup.proofs.walking.add_all.Given as goal

abbrev pub invariant-loop-node : goal.invariant-loop-node
invariant-loop-node l = record {
  kept : Grew l.fn.reached l.reached;
  added : (n : Node) → Contains l.yielded n → Contains l.reached n;
}
