use Rattle.std.proofs.Common.{◌≡◌, subst}
use Rattle.names.specs.declared.node.Node.{Node}
use Rattle.leopard.specs.inside.Asking.{Gains}
use Rattle.leopard.proofs.Nodes.{put_node, same_node}
use Rattle.group_index.proofs.Numbers.{put_id, put_other, other_unnamed}
use Rattle.group_index.proofs.numbered.put.Goals as goal

pub returns-in_ok-push-in-Some-clause-more : goal.returns-in_ok-push-in-Some-clause-more
returns-in_ok-push-in-Some-clause-more c = put_id c.args.names.now c.args.ids.now.items c.push.new.self.items c.args.others.now.keys c.args.group.now c.in-Some.id c.in-Some.ensures.found c.in_ok-push-in-Some.ensures.items

pub returns-in_ok-insert-in-None-clause-more : goal.returns-in_ok-insert-in-None-clause-more
returns-in_ok-insert-in-None-clause-more c =
    let copy : Node = c.in_ok-copy-in-None.copy in
    let same : copy ≡ c.args.group.now = same_node copy c.args.group.now c.in_ok-copy-in-None.ensures.cases in
    put_other c.args.names.now c.args.others.now.keys c.insert.new.self.keys c.args.group.now
    (subst (λ (g : Node). Gains (λ n. n ≡ g) c.args.others.now.keys c.insert.new.self.keys) same (put_node c.args.others.now.keys c.insert.new.self.keys copy c.in_ok-insert-in-None.ensures.updates.0)) c.args.ids.now.items

pub returns-in_ok-insert-in-None-clause-unnamed : goal.returns-in_ok-insert-in-None-clause-unnamed
returns-in_ok-insert-in-None-clause-unnamed c =
    let copy : Node = c.in_ok-copy-in-None.copy in
    let same : copy ≡ c.args.group.now = same_node copy c.args.group.now c.in_ok-copy-in-None.ensures.cases in
    other_unnamed c.args.names.now c.args.others.now.keys c.insert.new.self.keys c.args.group.now
    (subst (λ (g : Node). Gains (λ n. n ≡ g) c.args.others.now.keys c.insert.new.self.keys) same (put_node c.args.others.now.keys c.insert.new.self.keys copy c.in_ok-insert-in-None.ensures.updates.0))
    c.in-None.ensures.missing
