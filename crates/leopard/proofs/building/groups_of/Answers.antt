use Rattle.std.proofs.Common.{List, Any, Contains, length, sym, subst, ◌∙◌}
use Rattle.std.proofs.lemmas.Bool.{eqb-true}
use Rattle.names.specs.declared.node.Node.{Node}
use Rattle.names.specs.declared.tuple.Tuple.{Tuple}
use Rattle.meaning.specs.Config.{Configured}
use Rattle.leopard.specs.inside.Asking.{AreAll}
use Rattle.leopard.specs.inside.Building.{Owns}
use Rattle.leopard.proofs.Making.{groups_first, groups_next, groups_last, none_of_length}
use Rattle.leopard.proofs.building.groups_of.Goals as goal

pub loop-init : goal.loop-init
loop-init c =
    let groups : List Node = c.in_ok-groups.groups in
    groups_first c.args.input.now groups c.in_ok-fresh.fresh
    (subst (λ (ts : List Tuple). AreAll (λ n. Any (Owns c.args.input.now.config n) ts) groups) c.tuples.ensures.tuples
    (subst (λ (k : Configured). AreAll (λ n. Any (Owns k n) c.tuples.result.now) groups) c.config.ensures.config c.in_ok-groups.ensures))
    c.in_ok-fresh.ensures

pub loop-preserved : goal.loop-preserved
loop-preserved c =
    let ends : List Node = c.in_ok-ends.ends.items in
    let is = c.deref.ensures.value in
    groups_next c.args.input.now c.loop.groups c.loop.fresh ends c.in_ok-fresh-2.fresh c.in_ok-groups-2.groups c.as_slice-nodes.result.now
    c.loop.invariant c.as_slice-nodes.ensures.names c.in_ok-ends.ensures
    (λ n h. subst (λ (l : List Node). Contains l n) is (c.in_ok-fresh-2.ensures.only n h))
    (λ n h. c.in_ok-fresh-2.ensures.all n (subst (λ (l : List Node). Contains l n) (sym is) h))
    c.in_ok-groups-2.ensures

pub returns-then-is_empty : goal.returns-then-is_empty
returns-then-is_empty c = groups_last c.args.input.now c.loop.groups c.loop.fresh c.loop.invariant
    (sym c.as_slice-nodes.ensures.names ∙ none_of_length c.as_slice-nodes.result.now (eqb-true (length c.as_slice-nodes.result.now) 0 (sym c.is_empty.ensures ∙ c.if-is_empty.true)))
