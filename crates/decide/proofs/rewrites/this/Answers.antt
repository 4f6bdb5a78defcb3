use Rattle.std.proofs.Common.{subst}
use Rattle.std.specs.Prelude.{Some, IfSome}
use Rattle.decide.specs.inside.Given.{HasSome}
use Rattle.decide.specs.inside.Asked.{GoesOn}
use Rattle.decide.specs.inside.Reads.{AreOwn}
use Rattle.decide.proofs.Found.{this_gave, some_grows, goes_read, goes_trans, asker_is}
use Rattle.decide.proofs.rewrites.this.Goals as goal

pub returns-clause-goes_on : goal.returns-clause-goes_on
returns-clause-goes_on c =
    let own : AreOwn c.args.facts.now c.args.asking.now.user.now c.args.asking.now.node.now c.in-Some.sets.items = subst (λ o. IfSome o (λ v. AreOwn c.args.facts.now c.args.asking.now.user.now c.args.asking.now.node.now v.items)) c.in-Some.is c.in_ok-sets.ensures.some in
    let before : GoesOn c.args.facts.now c.args.search.now c.some_asked.new.search c.args.asking.now =
    goes_trans c.args.facts.now c.args.asking.now c.args.search.now c.own_of.new.search c.some_asked.new.search c.in_ok-sets.ensures.goes_on c.in_ok-found.ensures.goes_on in
    goes_trans c.args.facts.now c.args.asking.now c.args.search.now c.some_asked.new.search c.keep_own.new.self before
    (goes_read c.args.facts.now c.args.asking.now c.some_asked.new.search c.keep_own.new.self before.asking c.keep_own.ensures.grew
    (c.keep_own.ensures.running c.args.facts.now c.args.asking.now.user.now (Some c.args.asking.now.number)
    (asker_is c.args.facts.now c.args.asking.now c.some_asked.new.search before.asking (λ n. AreOwn c.args.facts.now c.args.asking.now.user.now n c.in-Some.sets.items) own)))

pub returns-clause-found : goal.returns-clause-found
returns-clause-found c =
    let own : AreOwn c.args.facts.now c.args.asking.now.user.now c.args.asking.now.node.now c.in-Some.sets.items = subst (λ o. IfSome o (λ v. AreOwn c.args.facts.now c.args.asking.now.user.now c.args.asking.now.node.now v.items)) c.in-Some.is c.in_ok-sets.ensures.some in
    this_gave c.args.facts.now c.args.asking.now c.keep_own.new.self c.in-Some.sets.items c.in_ok-found.found own
    (some_grows c.args.facts.now c.args.asking.now c.some_asked.new.search c.keep_own.new.self c.in-Some.sets.items c.in_ok-found.found c.keep_own.ensures.grew
    (subst (λ ns. HasSome c.args.facts.now c.some_asked.new.search c.args.asking.now ns c.in_ok-found.found) c.deref.ensures.value c.in_ok-found.ensures.found))
