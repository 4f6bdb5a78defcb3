use Rattle.facts.proofs.Naming.{user_more, user_passed}
use Rattle.facts.proofs.reading.push_user.Goals as goal

pub returns-in_ok-push-in-None-clause-numbers : goal.returns-in_ok-push-in-None-clause-numbers
returns-in_ok-push-in-None-clause-numbers c =
    user_more c.args.users.now c.number_of.new.ids c.args.ids.now.items c.push.new.self.items c.in_ok-id-in-None.id c.args.tuple.now c.in-None.is
    c.in_ok-id-in-None.ensures.grew c.in_ok-id-in-None.ensures.id c.in_ok-push-in-None.ensures.items

pub returns-in-Some-clause-numbers : goal.returns-in-Some-clause-numbers
returns-in-Some-clause-numbers c = user_passed c.args.users.now c.args.ids.now.items c.args.tuple.now _ c.in-Some.is
