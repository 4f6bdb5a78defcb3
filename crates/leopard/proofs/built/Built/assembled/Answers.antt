use Rattle.leopard.proofs.Assembling.{is_built, is_indexed}
use Rattle.leopard.proofs.built.Built.assembled.Goals as goal

pub invariant_of-result : goal.invariant_of-result
invariant_of-result c = is_built c.args.input c.args.rev c.args.parts.groups c.args.parts.arcs.items c.args.parts.users c.args.parts.direct.items c.args.closures.items c.requires.parts c.requires.walks

pub returns-clause-same : goal.returns-clause-same
returns-clause-same c = is_built c.args.input c.args.rev c.args.parts.groups c.args.parts.arcs.items c.args.parts.users c.args.parts.direct.items c.args.closures.items c.requires.parts c.requires.walks

pub returns-clause-index : goal.returns-clause-index
returns-clause-index c = is_indexed c.args.input c.args.rev c.args.parts.groups c.args.parts.arcs.items c.args.parts.users c.args.parts.direct.items c.args.closures.items c.requires.parts c.requires.walks
    c.config-config.result.now c.config-config.ensures.config c.relations.ensures.valid c.relations.ensures.ordered c.config-config.ensures.admitted
