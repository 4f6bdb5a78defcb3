use Rattle.std.proofs.Common.{ap, ◌∙◌, map}
use Rattle.decide.specs.inside.Reads.{node_with}
use Rattle.decide.proofs.Relations.{nodes_are}
use Rattle.decide.proofs.facts.Facts.parents_of.Goals as goal

pub returns : goal.returns
returns c =
    nodes_are c.args.self.now c.args.node.now c.node_of-from.result c.args.tupleset.now c.args.relation.now c.in_ok-objects.objects.items c.in_ok-nodes.nodes.items
    c.node_of-from.ensures
    c.in_ok-objects.ensures
    (c.in_ok-nodes.ensures ∙ ap (map (node_with c.args.relation.now)) c.deref.ensures.value)
