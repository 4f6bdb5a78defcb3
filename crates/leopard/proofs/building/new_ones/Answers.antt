use Rattle.std.proofs.Common.{◌≡◌, List, [], ◌∷◌, ◌++◌, ◌+◌, drop, refl, sym, subst, inl, inr, ⊎_elim, arith}
use Rattle.std.specs.Prelude.{◌⊎◌, Contains}
use Rattle.names.specs.declared.node.Node.{Node}
use Rattle.leopard.proofs.Gather.{left_at, left_none, item_there}
use Rattle.leopard.proofs.Making.{nothing_yet, pushed, new_more}
use Rattle.leopard.proofs.building.new_ones.Goals.{then-not-contains+in_ok-push, else-not-contains}
use Rattle.leopard.proofs.building.new_ones.Goals as goal

pub loop-node-init : goal.loop-node-init
loop-node-init c = record {
  only = λ n h. absurd (nothing_yet c.new-fresh.result.items n c.new-fresh.ensures.items h);
  all = λ n h. inr h;
}

pub loop-node-preserved : goal.loop-node-preserved
loop-node-preserved c =
    let nodes : List Node = c.args.nodes.now in
    let groups : List Node = c.args.groups.now in
    let fresh : List Node = c.loop-node.fresh.items in
    let item : Node = c.node-item.result in
    let next = left_at nodes c.loop-node.node-index item c.loop-node-test.true c.node-item.is in
    let rest : List Node = drop (c.loop-node.node-index + 1) nodes in
    elim c.if-not-contains.branch [
      | then-not-contains+in_ok-push w ↦
          let items : w.push.new.self.items ≡ fresh ++ item ∷ [] = subst (λ (m : Node). w.push.new.self.items ≡ fresh ++ m ∷ []) w.again.ensures w.in_ok-push.ensures.items in
          rw w.fresh-is (record {
            only = λ n h. ⊎_elim
                (λ old. c.loop-node.invariant.only n old)
                (λ e. subst (Contains nodes) (sym e) (item_there nodes c.loop-node.node-index item c.loop-node-test.true c.node-item.is))
                ((pushed fresh item n).0 (subst (λ (l : List Node). Contains l n) items h));
            all = new_more nodes groups fresh w.push.new.self.items (drop c.loop-node.node-index nodes) rest item next c.loop-node.invariant.all
                (λ n h. subst (λ (l : List Node). Contains l n) (sym items) ((pushed fresh item n).1 (inl h)))
                (inr (subst (λ (l : List Node). Contains l item) (sym items) ((pushed fresh item item).1 (inr refl))));
          })
      | else-not-contains w ↦
          rw w.fresh-is (record {
            only = c.loop-node.invariant.only;
            all = new_more nodes groups fresh fresh (drop c.loop-node.node-index nodes) rest item next c.loop-node.invariant.all
                (λ n h. h) (inl (c.contains.ensures.yes w.if-not-contains.false));
          })
    ]

pub returns-clause-only : goal.returns-clause-only
returns-clause-only c = λ n h. c.loop-node.invariant.only n ((c.of.ensures.names n).0 h)

pub returns-clause-all : goal.returns-clause-all
returns-clause-all c = λ n h. ⊎_elim
    (λ k. ⊎_elim inl (λ f. inr ((c.of.ensures.names n).1 f)) k)
    (λ left. absurd (nothing_yet (drop c.loop-node.node-index c.args.nodes.now) n
    (left_none c.args.nodes.now c.loop-node.node-index (omega (arith, c.loop-node-test.false, c.loop-node.auto.node-index-end))) left))
    (c.loop-node.invariant.all n h)
