use Rattle.std.proofs.Common.{ℕ, List, subst}
use Rattle.std.specs.Prelude.{◌↔◌}
use Rattle.names.specs.declared.node.Node.{Node}
use Rattle.meaning.specs.Snap.{Snap}
use Rattle.leopard.specs.Finding.{AreFound, IsNamedBy}
use Rattle.leopard.specs.Groups.{MemberToGroup}
use Rattle.leopard.proofs.Finding.{found_as, if_ok}
use Rattle.group_index.proofs.Numbers.{found_none}
use Rattle.group_index.proofs.Telling.{by_direct}
use Rattle.group_index.proofs.at.AtGroupSets.direct.Goals as goal

pub returns-in-Some : goal.returns-in-Some
returns-in-Some c = if_ok _ _ c.found_named.result
    (λ f are S told.
    let at = c.args.self.now in
    let u = c.args.user.now in
    let names = at.index.now.layer.nodes in
    let table = at.index.now.direct.kept.groups in
    let ids = c.in-Some.ids.now in
    let direct : (n : Node) → IsNamedBy table ids n ↔ MemberToGroup S u n = by_direct at S told (λ (T : Snap). (n : Node) → IsNamedBy table ids n ↔ MemberToGroup T u n) c.in-Some.ensures.kept in
    let found : AreFound names (IsNamedBy table ids) f.ids f.others.keys = subst (λ (ns : List Node). AreFound ns (IsNamedBy table ids) f.ids f.others.keys) c.nodes.ensures
    (subst (λ (ns : List Node). AreFound c.nodes.result.now (IsNamedBy ns ids) f.ids f.others.keys) c.groups.ensures
    (subst (λ (xs : List ℕ). AreFound c.nodes.result.now (IsNamedBy c.groups.result.now xs) f.ids f.others.keys) c.as_slice.ensures.ids are)) in
    found_as names (IsNamedBy table ids) (MemberToGroup S u) f.ids f.others.keys direct found)
    c.found_named.ensures

pub returns-in-None : goal.returns-in-None
returns-in-None c = λ S told. found_none c.args.self.now.index.now.layer.nodes c.new.result c.new-in-None.result.keys (MemberToGroup S c.args.user.now) c.new.ensures c.new-in-None.ensures.empty
    (by_direct c.args.self.now S told (λ (T : Snap). (n : Node) → MemberToGroup T c.args.user.now n → ⊥) c.in-None.ensures.none)
