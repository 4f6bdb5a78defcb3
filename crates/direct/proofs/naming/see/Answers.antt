use Rattle.facts.proofs.Naming.{see_grew}
use Rattle.direct.proofs.Tables.{see_longer}
use Rattle.direct.proofs.naming.see.Goals as goal

pub returns-clause-grew : goal.returns-clause-grew
returns-clause-grew g c = see_grew c.args.table.now c.see-number.new.self c.args.name c.see-number.result c.see-number.ensures.names c.see-number.ensures.err

pub returns-clause-longer : goal.returns-clause-longer
returns-clause-longer g c = see_longer c.args.table.now c.see-number.new.self c.args.name c.see-number.result c.see-number.ensures.names c.see-number.ensures.err
