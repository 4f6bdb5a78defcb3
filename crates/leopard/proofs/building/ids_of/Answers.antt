use Rattle.std.proofs.Common.{◌≡◌, List, ◌+◌, drop, true, Any, sym, subst, arith}
use Rattle.std.specs.Prelude.{◌↔◌, ◌⊎◌, Some}
use Rattle.std.specs.List.{slice_get}
use Rattle.names.specs.declared.node.Node.{Node}
use Rattle.idsets.specs.Sets.{has}
use Rattle.leopard.proofs.Finding.{all_yet}
use Rattle.leopard.proofs.Gather.{gather_more, gather_none, gather_all, left_at, left_none}
use Rattle.leopard.proofs.Leftover.{added_as}
use Rattle.leopard.proofs.Making.{has_nothing, ids_are}
use Rattle.leopard.proofs.Numbers.{id_is, has_push}
use Rattle.leopard.proofs.building.ids_of.Goals.{in-Some+in_ok-push, in_default}
use Rattle.leopard.proofs.building.ids_of.Goals as goal

pub loop-node-init : goal.loop-node-init
loop-node-init c = λ id. all_yet (has c.new-ids.result.items id ≡ true) _ _ (has_nothing c.new-ids.result.items id c.new-ids.ensures.items) (λ h. h, λ h. h)

pub loop-node-preserved : goal.loop-node-preserved
loop-node-preserved c id =
    let groups : List Node = c.args.groups.now in
    let item : Node = c.node-item.result in
    let next = left_at c.args.nodes.now c.loop-node.node-index item c.loop-node-test.true c.node-item.is in
    elim c.match-id_of.branch [
      | in-Some+in_ok-push w ↦
          let found = id_is groups c.requires item w.in-Some.id id w.in-Some.ensures.found in
          rw w.ids-is
          (gather_more (λ (n : Node). slice_get groups id ≡ Some n) (Any (λ (n : Node). slice_get groups id ≡ Some n) c.args.nodes.now) (has c.loop-node.ids.items id ≡ true) (has w.push.new.self.items id ≡ true)
          (drop c.loop-node.node-index c.args.nodes.now) item (drop (c.loop-node.node-index + 1) c.args.nodes.now) next (c.loop-node.invariant id)
          (subst (λ l. (has l id ≡ true) ↔ ((has c.loop-node.ids.items id ≡ true) ⊎ (slice_get groups id ≡ Some item))) (sym w.in_ok-push.ensures.items)
          (added_as _ _ _ _ (has_push c.loop-node.ids.items w.in-Some.id id) (λ e. found.1 e, λ at. found.0 at))))
      | in_default w ↦
          rw w.ids-is
          (gather_none (λ (n : Node). slice_get groups id ≡ Some n) (Any (λ (n : Node). slice_get groups id ≡ Some n) c.args.nodes.now) (has c.loop-node.ids.items id ≡ true)
          (drop c.loop-node.node-index c.args.nodes.now) item (drop (c.loop-node.node-index + 1) c.args.nodes.now) next (c.loop-node.invariant id)
          (λ at. w.in_default.ensures.missing id at))
    ]

pub returns : goal.returns
returns c = ids_are c.args.groups.now c.args.nodes.now c.loop-node.ids.items c.of.result c.of.ensures.ascending c.of.ensures.members
    (λ id. gather_all (λ (n : Node). slice_get c.args.groups.now id ≡ Some n) _ (has c.loop-node.ids.items id ≡ true) (drop c.loop-node.node-index c.args.nodes.now)
    (left_none c.args.nodes.now c.loop-node.node-index (omega (arith, c.loop-node-test.false, c.loop-node.auto.node-index-end)))
    (c.loop-node.invariant id))
