use Rattle.std.proofs.Common.{◌≡◌, List, [], ◌∷◌, ◌++◌, ◌+◌, take, refl, ap, sym, subst, ◌∙◌, arith, Contains}
use Rattle.std.specs.Prelude.{◌↔◌}
use Rattle.std.proofs.lemmas.List.{take_more, take_all}
use Rattle.names.specs.declared.node.Node.{Node}
use Rattle.graphs.specs.Groups.{IsGroupArc}
use Rattle.leopard.specs.Build.{AreSetsOf}
use Rattle.leopard.proofs.Closures.{sets_none, sets_more, set_as}
use Rattle.leopard.proofs.building.arcs_of.Goals as goal

pub loop-node-init : goal.loop-node-init
loop-node-init c = sets_none c.args.groups.now (IsGroupArc c.args.input.now) [] c.new-arcs.result.items refl c.new-arcs.ensures.items

pub loop-node-preserved : goal.loop-node-preserved
loop-node-preserved c =
    let S = c.args.input.now in
    let groups : List Node = c.args.groups.now in
    let nodes : List Node = c.as_slice-nodes.result.now in
    let item : Node = c.node-item.result in
    let before : List Node = take c.loop-node.node-index nodes in
    let taken = take_more nodes c.loop-node.node-index item c.loop-node-test.true ∙ ap (λ (m : Node). before ++ m ∷ []) (sym c.node-item.is) in
    subst (λ (ks : List Node). AreSetsOf groups (IsGroupArc S) ks c.push.new.self.items) (sym taken)
    (subst (AreSetsOf groups (IsGroupArc S) (before ++ item ∷ [])) (sym c.in_ok-push.ensures.items)
    (sets_more groups (IsGroupArc S) before item c.loop-node.arcs.items c.in_ok-ids.ids c.loop-node.invariant
    (set_as groups (Contains c.deref.result.now) (IsGroupArc S item) c.in_ok-ids.ids
    (λ n. subst (λ (l : List Node). Contains l n ↔ IsGroupArc S item n) (sym c.deref.ensures.value) (c.in_ok-ends.ensures n)) c.in_ok-ids.ensures)))

pub ids_of-requires : goal.ids_of-requires
ids_of-requires c = c.len.ensures.distinct

pub returns : goal.returns
returns c =
    let nodes : List Node = c.as_slice-nodes.result.now in
    let whole : take c.loop-node.node-index nodes ≡ c.args.groups.now = take_all c.loop-node.node-index nodes (omega (arith, c.loop-node-test.false)) ∙ c.as_slice-nodes.ensures.names in
    subst (λ (ks : List Node). AreSetsOf c.args.groups.now (IsGroupArc c.args.input.now) ks c.loop-node.arcs.items) whole c.loop-node.invariant
