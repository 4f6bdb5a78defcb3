use Rattle.std.proofs.Common.{◌≡◌, Any, Contains, ◌+◌, drop, subst, ap₂, arith}
use Rattle.std.specs.Prelude.{◌↔◌, ◌⊎◌}
use Rattle.names.specs.declared.object.Object.{Object}
use Rattle.names.specs.declared.node.Node.{Node}
use Rattle.leopard.proofs.Gather.{gather_more, gather_all, left_at, left_none}
use Rattle.leopard.proofs.direct.put_nodes.Goals as goal

same_node : (a b : Node) → ((a.object.namespace ≡ b.object.namespace) × (a.object.id ≡ b.object.id)) × (a.relation ≡ b.relation) → a ≡ b
same_node a b e = ap₂ (λ (o : Object) r. record { object = o; relation = r }) (ap₂ (λ n i. record { namespace = n; id = i }) e.0.0 e.0.1) e.1

pub loop-tuple-preserved : goal.loop-tuple-preserved
loop-tuple-preserved c n =
    gather_more (λ t. n ≡ t.node) (Contains c.args.groups.now.keys n ⊎ Any (λ t. n ≡ t.node) c.args.tuples.now) (Contains c.loop-tuple.groups.keys n) (Contains c.put.new.nodes.keys n)
    (drop c.loop-tuple.tuple-index c.args.tuples.now) c.tuple-item.result (drop (c.loop-tuple.tuple-index + 1) c.args.tuples.now)
    (left_at c.args.tuples.now c.loop-tuple.tuple-index c.tuple-item.result c.loop-tuple-test.true c.tuple-item.is)
    (c.loop-tuple.invariant n)
    (subst (λ (k : Node). Contains c.put.new.nodes.keys n ↔ (Contains c.loop-tuple.groups.keys n ⊎ (n ≡ k))) (same_node c.in_ok-clone.field-0 c.tuple-item.result.node c.in_ok-clone.ensures.cases) (c.in_ok-put.ensures.gains n))

pub returns : goal.returns
returns c n =
    gather_all (λ t. n ≡ t.node) (Contains c.args.groups.now.keys n ⊎ Any (λ t. n ≡ t.node) c.args.tuples.now) (Contains c.loop-tuple.groups.keys n)
    (drop c.loop-tuple.tuple-index c.args.tuples.now)
    (left_none c.args.tuples.now c.loop-tuple.tuple-index (omega (arith, c.loop-tuple-test.false, c.loop-tuple.auto.tuple-index-end)))
    (c.loop-tuple.invariant n)
