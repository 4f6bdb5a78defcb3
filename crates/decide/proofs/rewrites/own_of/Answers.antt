use Rattle.std.proofs.Common.{subst}
use Rattle.std.specs.Prelude.{Some}
use Rattle.decide.proofs.Found.{goes_read}
use Rattle.decide.specs.inside.Reads.{AreOwn}
use Rattle.decide.proofs.rewrites.own_of.Goals as goal

pub returns-in-Some-clause-goes_on : goal.returns-in-Some-clause-goes_on
returns-in-Some-clause-goes_on c =
    goes_read c.args.facts.now c.args.asking.now c.args.search.now c.take_own.new.self c.requires.asking c.take_own.ensures.grew
    (c.take_own.ensures.running c.args.facts.now c.args.asking.now.user.now (Some c.args.asking.now.number))

pub returns-clause-goes_on : goal.returns-clause-goes_on
returns-clause-goes_on c =
    goes_read c.args.facts.now c.args.asking.now c.args.search.now c.take_own.new.self c.requires.asking c.take_own.ensures.grew
    (c.take_own.ensures.running c.args.facts.now c.args.asking.now.user.now (Some c.args.asking.now.number))

pub returns-in-Some-clause-some : goal.returns-in-Some-clause-some
returns-in-Some-clause-some c =
    let number = c.requires.asking.number in
    let of_it = c.in-Some.ensures.own c.args.facts.now c.args.asking.now.user.now (Some c.args.asking.now.number) c.requires.asking.running number.0 number.1 in
    subst (λ n. AreOwn c.args.facts.now c.args.asking.now.user.now n c.in-Some.sets.items) number.2 of_it
