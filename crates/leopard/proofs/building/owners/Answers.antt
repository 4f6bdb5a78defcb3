use Rattle.std.proofs.Common.{◌≡◌, Any, Contains, ◌+◌, drop, sym, ◌∙◌, arith}
use Rattle.std.proofs.lemmas.Bool.{false≢true}
use Rattle.meaning.specs.Config.{rel_of}
use Rattle.config.specs.Valid.{is_indexed}
use Rattle.leopard.specs.inside.Building.{Owns}
use Rattle.leopard.proofs.Finding.{all_yet}
use Rattle.leopard.proofs.Gather.{gather_more, gather_none, gather_all, left_at, left_none}
use Rattle.leopard.proofs.Making.{nothing_yet}
use Rattle.leopard.proofs.Named.{under_test}
use Rattle.leopard.proofs.building.owners.Goals.{then-is_group+in_ok-push_next, else-is_group}
use Rattle.leopard.proofs.building.owners.Goals as goal

pub loop-tuple-init : goal.loop-tuple-init
loop-tuple-init c = λ n. all_yet (Contains c.new-groups.result.items n) _ _ (nothing_yet c.new-groups.result.items n c.new-groups.ensures.items) (λ h. h, λ h. h)

pub loop-tuple-preserved : goal.loop-tuple-preserved
loop-tuple-preserved c n =
    let next = left_at c.args.tuples.now c.loop-tuple.tuple-index c.tuple-item.result c.loop-tuple-test.true c.tuple-item.is in
    elim c.if-is_group.branch [
      | then-is_group+in_ok-push_next w ↦
          rw w.groups-is
          (gather_more (Owns c.args.config.now n) (Any (Owns c.args.config.now n) c.args.tuples.now) (Contains c.loop-tuple.groups.items n) (Contains w.push_next.new.nodes.items n)
          (drop c.loop-tuple.tuple-index c.args.tuples.now) c.tuple-item.result (drop (c.loop-tuple.tuple-index + 1) c.args.tuples.now)
          next (c.loop-tuple.invariant n)
          (under_test (is_indexed c.args.config.now (rel_of c.tuple-item.result.node)) (Contains c.loop-tuple.groups.items n) (Contains w.push_next.new.nodes.items n) (n ≡ c.tuple-item.result.node)
          (sym c.is_group.ensures ∙ w.if-is_group.true) (w.in_ok-push_next.ensures n)))
      | else-is_group w ↦
          rw w.groups-is
          (gather_none (Owns c.args.config.now n) (Any (Owns c.args.config.now n) c.args.tuples.now) (Contains c.loop-tuple.groups.items n)
          (drop c.loop-tuple.tuple-index c.args.tuples.now) c.tuple-item.result (drop (c.loop-tuple.tuple-index + 1) c.args.tuples.now)
          next (c.loop-tuple.invariant n)
          (λ own. false≢true (sym w.if-is_group.false ∙ c.is_group.ensures ∙ own.0)))
    ]

pub returns : goal.returns
returns c n =
    let all = gather_all (Owns c.args.config.now n) (Any (Owns c.args.config.now n) c.args.tuples.now) (Contains c.loop-tuple.groups.items n) (drop c.loop-tuple.tuple-index c.args.tuples.now)
    (left_none c.args.tuples.now c.loop-tuple.tuple-index (omega (arith, c.loop-tuple-test.false, c.loop-tuple.auto.tuple-index-end)))
    (c.loop-tuple.invariant n) in
    (λ h. all.0 ((c.of.ensures.names n).0 h), λ h. (c.of.ensures.names n).1 (all.1 h))
