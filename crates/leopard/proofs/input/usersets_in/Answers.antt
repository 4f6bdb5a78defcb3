use Rattle.std.proofs.Common.{◌≡◌, ◌+◌, drop, Any, Contains, arith}
use Rattle.names.specs.declared.tuple.Tuple.{Tuple}
use Rattle.meaning.specs.Snap.{set_of}
use Rattle.leopard.proofs.Finding.{all_yet}
use Rattle.leopard.proofs.Gather.{gather_more, gather_all, left_at, left_none}
use Rattle.leopard.proofs.Making.{nothing_yet}
use Rattle.leopard.proofs.input.usersets_in.Goals as goal

pub loop-tuple-init : goal.loop-tuple-init
loop-tuple-init c = λ n. all_yet (Contains c.new-nodes.result.items n) _ _ (nothing_yet c.new-nodes.result.items n c.new-nodes.ensures.items) (λ h. h, λ h. h)

pub returns : goal.returns
returns c n =
    gather_all (λ (t : Tuple). t.subject ≡ set_of n) _ (Contains c.loop-tuple.nodes.items n) (drop c.loop-tuple.tuple-index c.args.tuples.now)
    (left_none c.args.tuples.now c.loop-tuple.tuple-index (omega (arith, c.loop-tuple-test.false, c.loop-tuple.auto.tuple-index-end)))
    (c.loop-tuple.invariant n)

pub loop-tuple-preserved : goal.loop-tuple-preserved
loop-tuple-preserved c n =
    let tuples = c.args.tuples.now in
    let t : Tuple = c.tuple-item.result in
    let k = c.loop-tuple.tuple-index in
    gather_more (λ (q : Tuple). q.subject ≡ set_of n) (Any (λ (q : Tuple). q.subject ≡ set_of n) tuples) (Contains c.loop-tuple.nodes.items n) (Contains c.push_userset.new.nodes.items n)
    (drop k tuples) t (drop (k + 1) tuples) (left_at tuples k t c.loop-tuple-test.true c.tuple-item.is) (c.loop-tuple.invariant n) (c.in_ok-push_userset.ensures n)
