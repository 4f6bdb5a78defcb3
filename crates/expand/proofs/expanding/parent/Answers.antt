use Rattle.expand.proofs.Relations.{parent_there, parent_lacks}
use Rattle.expand.proofs.expanding.parent.Goals as goal

pub returns-in-Some-place_of : goal.returns-in-Some-place_of
returns-in-Some-place_of c =
    parent_there c.args.source.now.config.now c.args.source.now.view.now.config c.args.relation.now c.args.subject.now c.in_ok-node-in-None.node c.in-Some-place_of.field-0 c.requires c.in-None.is c.in_ok-node-in-None.ensures c.in-Some-place_of.ensures.found

pub returns-in-None-place_of : goal.returns-in-None-place_of
returns-in-None-place_of c =
    parent_lacks c.args.source.now.config.now c.args.source.now.view.now.config c.args.relation.now c.args.subject.now c.in_ok-node-in-None.node c.requires c.in-None.is c.in_ok-node-in-None.ensures c.in-None-place_of.ensures.none
