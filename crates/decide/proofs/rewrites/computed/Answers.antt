use Rattle.std.proofs.Common.{refl}
use Rattle.decide.specs.inside.Reads.{node_with}
use Rattle.decide.proofs.Found.{computed_gave}
use Rattle.decide.proofs.rewrites.computed.Goals as goal

pub returns-clause-found : goal.returns-clause-found
returns-clause-found c =
    let relation = c.args.relation.now in
    computed_gave c.args.facts.now c.args.asking.now c.asked.new.search relation (node_with relation c.args.asking.now.node.now.object) c.in_ok-found.found refl c.in_ok-found.ensures.found
