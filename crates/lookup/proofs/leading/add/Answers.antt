use Rattle.lookup.proofs.Growing.{see_grew}
use Rattle.lookup.proofs.leading.add.Goals as goal

pub returns-clause-kept : goal.returns-clause-kept
returns-clause-kept c = see_grew c.args.reached.now c.see.new.self (record { object = c.again.result; relation = c.again-2.result }) c.in_ok-see.field-0 c.in_ok-see.ensures.names
