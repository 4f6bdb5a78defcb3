use Rattle.tables.proofs.Storing.{none_listed, none_is}
use Rattle.tables.proofs.listed.Listed.new.Goals as goal

pub invariant_of-result : goal.invariant_of-result
invariant_of-result c = none_listed c.args.number c.empty.result c.new.result.items c.empty.ensures c.new.ensures.items

pub returns : goal.returns
returns c = none_is c.args.number c.empty.result c.new.result.items c.empty.ensures c.new.ensures.items
