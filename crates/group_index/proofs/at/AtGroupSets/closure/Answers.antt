use Rattle.std.proofs.Common.{List, subst}
use Rattle.std.specs.Prelude.{◌↔◌, Contains}
use Rattle.names.specs.declared.node.Node.{Node}
use Rattle.meaning.specs.Snap.{Snap}
use Rattle.leopard.specs.Finding.{AreFound, IsNamedBy}
use Rattle.leopard.specs.Groups.{IsGroup, GroupToGroup}
use Rattle.leopard.proofs.Finding.{found_as, if_ok}
use Rattle.group_index.proofs.Numbers.{named_found}
use Rattle.group_index.proofs.Telling.{by_closures}
use Rattle.group_index.proofs.at.AtGroupSets.closure.Goals as goal

pub returns-in_ok-ids-in-Some : goal.returns-in_ok-ids-in-Some
returns-in_ok-ids-in-Some c = λ S told group.
    let at = c.args.self.now in
    let closure : IsGroup S.config c.args.group.now → (n : Node) → IsNamedBy at.index.now.layer.nodes c.in-Some.ids.now n ↔ GroupToGroup S c.args.group.now n =
    by_closures at S told (λ (T : Snap). IsGroup T.config c.args.group.now → (n : Node) → IsNamedBy at.index.now.layer.nodes c.in-Some.ids.now n ↔ GroupToGroup T c.args.group.now n) c.in-Some.ensures.kept in
    named_found at.index.now.layer.nodes (GroupToGroup S c.args.group.now) c.in-Some.ids.now c.in_ok-ids-in-Some.ids c.new-others.result.keys c.in_ok-ids-in-Some.ensures c.new-others.ensures.empty (closure group)

pub returns-in_ok-groups-in-None : goal.returns-in_ok-groups-in-None
returns-in_ok-groups-in-None c = if_ok _ _ c.found_among.result
    (λ f are S told group.
    let at = c.args.self.now in
    let groups : List Node = c.in_ok-groups-in-None.groups.items in
    let closure : IsGroup S.config c.args.group.now → (n : Node) → Contains groups n ↔ GroupToGroup S c.args.group.now n =
    by_closures at S told (λ (T : Snap). IsGroup T.config c.args.group.now → (n : Node) → Contains groups n ↔ GroupToGroup T c.args.group.now n) c.in_ok-groups-in-None.ensures in
    let found : AreFound at.index.now.layer.nodes (Contains groups) f.ids f.others.keys = subst (λ (ns : List Node). AreFound ns (Contains groups) f.ids f.others.keys) c.nodes.ensures
    (subst (λ (xs : List Node). AreFound c.nodes.result.now (Contains xs) f.ids f.others.keys) c.deref.ensures.value are) in
    found_as at.index.now.layer.nodes (Contains groups) (GroupToGroup S c.args.group.now) f.ids f.others.keys (closure group) found)
    c.found_among.ensures
