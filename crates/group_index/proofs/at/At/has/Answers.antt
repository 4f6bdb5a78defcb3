use Rattle.std.proofs.Common.{◌≡◌, true, List, sym, ◌∙◌, subst, rules}
use Rattle.std.specs.Prelude.{◌↔◌, Contains, IsTrue}
use Rattle.names.specs.declared.node.Node.{Node}
use Rattle.meaning.specs.Snap.{Snap}
use Rattle.config.specs.Valid as valid
use Rattle.leopard.specs.Finding.{IsNamedBy}
use Rattle.leopard.specs.Groups.{IsGroup, GroupToGroup, MemberToGroup}
use Rattle.group_index.proofs.Telling.{ok_is, none_any, told_config, told_group, by_closures, by_direct, met_member, unnamed_member}
use Rattle.group_index.proofs.at.At.has.Goals as goal

pub returns-in_default-clause-has : goal.returns-in_default-clause-has
returns-in_default-clause-has c = λ S told rv.
    let at = c.args.self.now in
    let g = c.args.node.now in
    let u = c.args.user.now in
    let config = c.config.ensures ∙ sym (told_config at S told) in
    let yes : c.is_group.result ≡ true = search rules in
    let group = told_group at S told c.config-2.result.now g c.is_group.result c.config-2.ensures c.is_group.ensures yes in
    unnamed_member c.closures_meet_where_members.ensures S u g (subst valid.IsValid config c.relations.ensures.valid) rv group
    (by_direct at S told (λ (T : Snap). (n : Node) → MemberToGroup T u n → ⊥) c.in_default.ensures.none)

pub returns-in_default-clause-group : goal.returns-in_default-clause-group
returns-in_default-clause-group c = λ S told.
    let yes : c.is_group.result ≡ true = search rules in
    told_group c.args.self.now S told c.config-2.result.now c.args.node.now c.is_group.result c.config-2.ensures c.is_group.ensures yes

pub returns-in-Some-kept_at-clause-has : goal.returns-in-Some-kept_at-clause-has
returns-in-Some-kept_at-clause-has c = λ S told rv.
    let at = c.args.self.now in
    let g = c.args.node.now in
    let u = c.args.user.now in
    let led = c.in-Some-kept_at.led.now in
    let named = c.in-Some.named.now in
    let config = c.config.ensures ∙ sym (told_config at S told) in
    let yes : c.is_group.result ≡ true = search rules in
    let group = told_group at S told c.config-2.result.now g c.is_group.result c.config-2.ensures c.is_group.ensures yes in
    let layer = at.index.now.layer.nodes in
    let direct = at.index.now.direct.kept.groups in
    met_member c.closures_meet_where_members.ensures S u g (subst valid.IsValid config c.relations.ensures.valid) rv group c.meet.result (IsNamedBy layer led) (IsNamedBy direct named)
    (by_closures at S told (λ (T : Snap). IsGroup T.config g → (n : Node) → IsNamedBy layer led n ↔ GroupToGroup T g n) c.in-Some-kept_at.ensures.kept group)
    (by_direct at S told (λ (T : Snap). (n : Node) → IsNamedBy direct named n ↔ MemberToGroup T u n) c.in-Some.ensures.kept)
    (subst (λ (ns : List Node). IsTrue c.meet.result ↔ ((n : Node) × IsNamedBy ns led n × IsNamedBy direct named n)) c.nodes.ensures
    (subst (λ (ns : List Node). IsTrue c.meet.result ↔ ((n : Node) × IsNamedBy c.nodes.result.now led n × IsNamedBy ns named n)) c.groups.ensures c.meet.ensures))

pub returns-in-Some-kept_at-clause-group : goal.returns-in-Some-kept_at-clause-group
returns-in-Some-kept_at-clause-group c = λ S told.
    let yes : c.is_group.result ≡ true = search rules in
    told_group c.args.self.now S told c.config-2.result.now c.args.node.now c.is_group.result c.config-2.ensures c.is_group.ensures yes

pub returns-in_ok-led-in-None-clause-has : goal.returns-in_ok-led-in-None-clause-has
returns-in_ok-led-in-None-clause-has c = λ S told rv.
    let at = c.args.self.now in
    let g = c.args.node.now in
    let u = c.args.user.now in
    let named = c.in-Some.named.now in
    let led : List Node = c.in_ok-led-in-None.led.items in
    let config = c.config.ensures ∙ sym (told_config at S told) in
    let yes : c.is_group.result ≡ true = search rules in
    let group = told_group at S told c.config-2.result.now g c.is_group.result c.config-2.ensures c.is_group.ensures yes in
    let direct = at.index.now.direct.kept.groups in
    met_member c.closures_meet_where_members.ensures S u g (subst valid.IsValid config c.relations.ensures.valid) rv group c.some_among.result (Contains led) (IsNamedBy direct named)
    (by_closures at S told (λ (T : Snap). IsGroup T.config g → (n : Node) → Contains led n ↔ GroupToGroup T g n)
    (ok_is _ c.closure_at.result c.in_ok-led-in-None.led c.in_ok-led-in-None.ensures.value c.closure_at.ensures) group)
    (by_direct at S told (λ (T : Snap). (n : Node) → IsNamedBy direct named n ↔ MemberToGroup T u n) c.in-Some.ensures.kept)
    (subst (λ (ns : List Node). IsTrue c.some_among.result ↔ ((n : Node) × Contains led n × IsNamedBy ns named n)) c.groups-in-None.ensures
    (subst (λ (ns : List Node). IsTrue c.some_among.result ↔ ((n : Node) × Contains ns n × IsNamedBy c.groups-in-None.result.now named n)) c.deref.ensures.value c.some_among.ensures))

pub returns-in_ok-led-in-None-clause-group : goal.returns-in_ok-led-in-None-clause-group
returns-in_ok-led-in-None-clause-group c = λ S told.
    let yes : c.is_group.result ≡ true = search rules in
    told_group c.args.self.now S told c.config-2.result.now c.args.node.now c.is_group.result c.config-2.ensures c.is_group.ensures yes

pub returns-in_err-led-in-None-clause-kept : goal.returns-in_err-led-in-None-clause-kept
returns-in_err-led-in-None-clause-kept c = none_any c.from_residual.result (λ S told group (ids, there). c.in-None.ensures.none ids there)
