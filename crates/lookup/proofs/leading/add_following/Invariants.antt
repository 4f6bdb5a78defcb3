use Rattle.std.proofs.Common.{take}
use Rattle.std.specs.Prelude.{All}
use Rattle.lookup.specs.inside.Leading.{follows}
use Rattle.lookup.specs.inside.Walking.{Grew}
use Rattle.lookup.proofs.Adding.{IsAdded}
use Rattle.lookup.proofs.leading.add_following.Given as goal

abbrev pub invariant-loop-relation : goal.invariant-loop-relation
invariant-loop-relation l = record {
  kept : Grew l.fn.reached l.reached;
  added : All (IsAdded (follows l.tupleset.relation l.node.relation) l.tupleset.object l.reached) (take l.relation-index l.relation-items);
}
