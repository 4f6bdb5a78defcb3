use Rattle.facts.proofs.Naming.{numbers_parents}
use Rattle.facts.proofs.reading.parents_of.Goals as goal

pub returns-clause-numbers : goal.returns-clause-numbers
returns-clause-numbers c = numbers_parents c.args.view.now c.args.node.now c.args.tupleset.now c.args.relation.now c.in_ok-from.from _ _ c.computed_of.new.nodes c.computed_of.result
    c.in_ok-from.ensures c.config.ensures.config c.in_ok-objects.ensures c.deref.ensures.value c.computed_of.ensures.numbers
