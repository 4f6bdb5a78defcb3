use Rattle.std.proofs.Common.{List, Any, Contains, ◌+◌, drop, sym, subst, arith}
use Rattle.std.specs.Prelude.{◌↔◌}
use Rattle.names.specs.declared.node.Node.{Node}
use Rattle.graphs.specs.Groups.{IsGroupArc}
use Rattle.leopard.proofs.Finding.{all_yet}
use Rattle.leopard.proofs.Gather.{gather_more, gather_all, left_at, left_none}
use Rattle.leopard.proofs.Leftover.{added_as}
use Rattle.leopard.proofs.Making.{nothing_yet}
use Rattle.leopard.proofs.building.ends_of_all.Goals as goal

pub loop-node-init : goal.loop-node-init
loop-node-init c = λ m. all_yet (Contains c.new-all.result.items m) _ _ (nothing_yet c.new-all.result.items m c.new-all.ensures.items) (λ h. h, λ h. h)

pub loop-node-preserved : goal.loop-node-preserved
loop-node-preserved c m =
    let S = c.args.input.now in
    let item : Node = c.node-item.result in
    let next = left_at c.args.nodes.now c.loop-node.node-index item c.loop-node-test.true c.node-item.is in
    gather_more (λ (n : Node). IsGroupArc S n m) (Any (λ (n : Node). IsGroupArc S n m) c.args.nodes.now) (Contains c.loop-node.all.items m) (Contains c.push_all.new.nodes.items m)
    (drop c.loop-node.node-index c.args.nodes.now) item (drop (c.loop-node.node-index + 1) c.args.nodes.now) next (c.loop-node.invariant m)
    (added_as _ _ _ _ (c.in_ok-push_all.ensures m) (subst (λ (l : List Node). Contains l m ↔ IsGroupArc S item m) (sym c.deref.ensures.value) (c.in_ok-more.ensures m)))

pub returns : goal.returns
returns c m =
    gather_all (λ (n : Node). IsGroupArc c.args.input.now n m) _ (Contains c.loop-node.all.items m) (drop c.loop-node.node-index c.args.nodes.now)
    (left_none c.args.nodes.now c.loop-node.node-index (omega (arith, c.loop-node-test.false, c.loop-node.auto.node-index-end)))
    (c.loop-node.invariant m)
