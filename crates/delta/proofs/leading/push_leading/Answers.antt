use Rattle.std.proofs.Common.{◌≡◌, true, sym, ◌∙◌, ap, rules}
use Rattle.names.specs.declared.object.Object.{Object}
use Rattle.names.specs.declared.node.Node.{Node}
use Rattle.meaning.specs.Config.{rel_of}
use Rattle.config_text.specs.Forms.{defined_of}
use Rattle.delta.proofs.Above.{gains_group, same_namespace, same_relation}
use Rattle.delta.proofs.leading.push_leading.Goals as goal

pub returns : goal.returns
returns c =
    let d = defined_of c.args.relation.now in
    let group : Node = record { object = c.in_ok-clone.field-0; relation = c.in_ok-clone-2.field-0 } in
    let indexed : d.indexed ≡ true = search rules in
    let object : group.object ≡ c.args.node.now.object = search rules in
    let relation : group.relation ≡ d.rel.relation = search rules in
    let namespace = same_namespace d.rel.namespace c.args.node.now.object.namespace c.ne.result c.ne.ensures c.if-ne.false in
    let rel : d.rel ≡ rel_of group = same_relation d.rel group (namespace ∙ ap (λ (o : Object). o.namespace) (sym object)) (sym relation) in
    gains_group c.args.config.now c.args.node.now d group c.args.groups.now.items c.push.new.self.items indexed rel object (c.in_ok-computes.ensures.0 c.if-not-branch.false) c.in_ok-push.ensures.items
