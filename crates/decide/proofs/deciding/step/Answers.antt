use Rattle.std.proofs.Common.{Some, subst}
use Rattle.decide.specs.inside.Given.{RelationGave}
use Rattle.decide.proofs.SearchLemmas.{grew_number}
use Rattle.decide.proofs.Turns.{relation_given, relation_stuck, waiting_all_there}
use Rattle.decide.proofs.Turning.{turned_no, turned_put, turned_given, still_lowest, its_level}
use Rattle.decide.proofs.deciding.step.Goals as goal

pub give-requires-clause-there : goal.give-requires-clause-there
give-requires-clause-there c = waiting_all_there c.args.facts.now c.args.asking.now.user.now c.relation_gives.new.search (Some c.args.asking.now.number) c.in_ok-relation_gives.ensures.goes_on.asking.running

pub returns-in_ok-give-in-Yes-clause-running : goal.returns-in_ok-give-in-Yes-clause-running
returns-in_ok-give-in-Yes-clause-running c =
    c.in_ok-give-in-Yes.ensures.running c.args.facts.now c.args.asking.now.user.now
    (relation_given c.args.facts.now c.relation_gives.new.search c.args.asking.now c.in_ok-relation_gives.ensures.goes_on.asking c.requires.plain
    (subst (RelationGave c.args.facts.now c.relation_gives.new.search c.args.asking.now) c.in-Yes.is c.in_ok-relation_gives.ensures.found))
    c.in_ok-relation_gives.ensures.goes_on.asking.running

pub returns-in_ok-give-in-Yes-clause-numbers : goal.returns-in_ok-give-in-Yes-clause-numbers
returns-in_ok-give-in-Yes-clause-numbers c = λ i k n x. c.in_ok-give-in-Yes.ensures.numbers i k n (grew_number c.args.search.now c.relation_gives.new.search i n k c.in_ok-relation_gives.ensures.goes_on.grew x)

pub returns-in-No-clause-running : goal.returns-in-No-clause-running
returns-in-No-clause-running c =
    relation_stuck c.args.facts.now c.relation_gives.new.search c.args.asking.now c.in_ok-relation_gives.ensures.goes_on.asking c.requires.plain
    (subst (RelationGave c.args.facts.now c.relation_gives.new.search c.args.asking.now) c.in-No.is c.in_ok-relation_gives.ensures.found)

pub returns-in-No-clause-numbers : goal.returns-in-No-clause-numbers
returns-in-No-clause-numbers c = λ i k n x. grew_number c.args.search.now c.relation_gives.new.search i n k c.in_ok-relation_gives.ensures.goes_on.grew x

pub returns-in_ok-put_back-in-Later-clause-numbers : goal.returns-in_ok-put_back-in-Later-clause-numbers
returns-in_ok-put_back-in-Later-clause-numbers c = λ i k n x. c.in_ok-put_back-in-Later.ensures.numbers i k n (grew_number c.args.search.now c.relation_gives.new.search i n k c.in_ok-relation_gives.ensures.goes_on.grew x)

pub put_back-requires-clause-level : goal.put_back-requires-clause-level
put_back-requires-clause-level c = its_level c.relation_gives.new.search c.args.asking.now.number c.args.asking.now.level c.args.asking.now.node.now c.in_ok-relation_gives.ensures.goes_on.asking.number

pub put_back-requires-clause-lowest : goal.put_back-requires-clause-lowest
put_back-requires-clause-lowest c =
    let its = c.requires.asking.number in
    still_lowest c.args.search.now c.relation_gives.new.search c.in_ok-relation_gives.ensures.goes_on.grew c.args.asking.now.number its.0 its.1 c.requires.lowest

pub put_back-requires-clause-unfinished : goal.put_back-requires-clause-unfinished
put_back-requires-clause-unfinished c =
    subst (RelationGave c.args.facts.now c.relation_gives.new.search c.args.asking.now) c.in-Later.is c.in_ok-relation_gives.ensures.found

pub returns-in_ok-give-in-Yes-clause-turned : goal.returns-in_ok-give-in-Yes-clause-turned
returns-in_ok-give-in-Yes-clause-turned c =
    let its = c.requires.asking.number in
    turned_given c.args.search.now c.relation_gives.new.search c.in_ok-relation_gives.ensures.goes_on.grew c.args.asking.now.number its.0 c.give.new.self its.1 (c.requires.unsure its.0 its.1)
    c.in_ok-give-in-Yes.ensures.long c.in_ok-give-in-Yes.ensures.sures

pub returns-in-No-clause-turned : goal.returns-in-No-clause-turned
returns-in-No-clause-turned c = turned_no c.args.search.now c.relation_gives.new.search c.in_ok-relation_gives.ensures.goes_on.grew

pub returns-in_ok-put_back-in-Later-clause-turned : goal.returns-in_ok-put_back-in-Later-clause-turned
returns-in_ok-put_back-in-Later-clause-turned c =
    turned_put c.args.search.now c.relation_gives.new.search c.in_ok-relation_gives.ensures.goes_on.grew c.put_back.new.self c.in_ok-put_back-in-Later.ensures.opened c.in_ok-put_back-in-Later.ensures.ends

pub returns-in_ok-put_back-in-Later-clause-running : goal.returns-in_ok-put_back-in-Later-clause-running
returns-in_ok-put_back-in-Later-clause-running c =
    c.in_ok-put_back-in-Later.ensures.running c.args.facts.now c.args.asking.now.user.now c.in_ok-relation_gives.ensures.goes_on.asking.running
