use Rattle.std.proofs.Common.{take}
use Rattle.std.specs.Prelude.{Contains}
use Rattle.names.specs.declared.node.Node.{Node}
use Rattle.lookup.specs.inside.Walking.{Grew, HasFollowing}
use Rattle.lookup.proofs.walking.add_all_following.Given as goal

abbrev pub invariant-loop-tupleset : goal.invariant-loop-tupleset
invariant-loop-tupleset l = record {
  kept : Grew l.fn.reached l.reached;
  added : (q : Node) → Contains (take l.tupleset-index l.tuplesets) q → HasFollowing l.config q l.node.relation l.reached;
}
