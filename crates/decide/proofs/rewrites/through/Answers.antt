use Rattle.std.proofs.Common.{map, refl}
use Rattle.decide.specs.inside.Reads.{node_with}
use Rattle.decide.proofs.Found.{through_gave}
use Rattle.decide.proofs.Relations.{nodes_are}
use Rattle.decide.proofs.rewrites.through.Goals as goal

pub returns-in-Some-clause-found : goal.returns-in-Some-clause-found
returns-in-Some-clause-found c =
    let n = c.args.asking.now.node.now in
    let nodes = map (node_with c.args.relation.now) c.in-Some.objects.now in
    through_gave c.args.facts.now c.args.asking.now c.some_of.new.search c.args.tupleset.now c.args.relation.now nodes c.in_ok-found.found
    (nodes_are c.args.facts.now n (node_with c.args.tupleset.now n.object) c.args.tupleset.now c.args.relation.now c.in-Some.objects.now nodes refl (c.in-Some.ensures c.args.facts.now n.object c.requires.asking.read) refl)
    c.in_ok-found.ensures.found
