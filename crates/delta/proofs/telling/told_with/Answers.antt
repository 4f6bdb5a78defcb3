use Rattle.region.specs.Rules.{shape_of}
use Rattle.delta.proofs.Numbered.{told_of}
use Rattle.delta.proofs.telling.told_with.Goals as goal

pub returns-clause-told : goal.returns-clause-told
returns-clause-told c = λ S group at all.
    told_of S c.args.nodes.now c.numbers_of.new.nodes c.args.id group c.args.ends.now c.in_ok-numbers.numbers.items c.in_ok-own.own (shape_of c.in_ok-rule.rule)
    c.in_ok-numbers.ensures.more.grew at all c.in_ok-numbers.ensures.numbers c.in_ok-rule.ensures c.in_ok-own.ensures
