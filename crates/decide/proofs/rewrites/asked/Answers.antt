use Rattle.std.proofs.Common.{◌∙◌, subst}
use Rattle.std.specs.Prelude.{Some, IfSome}
use Rattle.decide.specs.inside.Asked.{IsCounted}
use Rattle.decide.specs.inside.Reads.{node_with}
use Rattle.decide.proofs.Found.{goes_on, counted_sure, counted_waits, counted_settled, counted_unfinished}
use Rattle.decide.proofs.SearchLemmas.{grew_trans}
use Rattle.decide.proofs.rewrites.asked.Goals as goal

pub returns-then-is_sure-clause-found : goal.returns-then-is_sure-clause-found
returns-then-is_sure-clause-found c =
    let view = c.args.facts.now in
    let a = c.args.asking.now in
    let t = c.number_of.new.search in
    let counted : IsCounted view t a (node_with c.args.relation.now c.args.object.now) c.in-Some.number = subst (λ o. IfSome o (IsCounted view t a (node_with c.args.relation.now c.args.object.now))) c.in-Some.is c.in_ok-number.ensures.some in
    counted_sure view a t (node_with c.args.relation.now c.args.object.now) c.in-Some.number (Some a.number) c.in_ok-number.ensures.goes_on.asking.running counted (λ e st. c.is_sure.ensures e st ∙ c.if-is_sure.true)

pub returns-then-asking-clause-goes_on : goal.returns-then-asking-clause-goes_on
returns-then-asking-clause-goes_on c =
    let view = c.args.facts.now in
    let a = c.args.asking.now in
    let went = c.in_ok-number.ensures.goes_on in
    goes_on view a c.args.search.now c.wait.new.self c.requires.asking
    (grew_trans c.args.search.now c.number_of.new.search c.wait.new.self went.grew c.in_ok-wait.ensures.grew)
    (c.in_ok-wait.ensures.running view c.args.asking.now.user.now (Some a.number) went.asking.number.1.0 went.asking.running)

pub returns-then-asking-clause-found : goal.returns-then-asking-clause-found
returns-then-asking-clause-found c =
    let view = c.args.facts.now in
    let a = c.args.asking.now in
    let t = c.number_of.new.search in
    let counted : IsCounted view t a (node_with c.args.relation.now c.args.object.now) c.in-Some.number = subst (λ o. IfSome o (IsCounted view t a (node_with c.args.relation.now c.args.object.now))) c.in-Some.is c.in_ok-number.ensures.some in
    counted_waits view a t (node_with c.args.relation.now c.args.object.now) c.in-Some.number c.wait.new.self c.if-asking.true counted
    (λ e st. c.is_sure.ensures e st ∙ c.if-is_sure.false)
    c.in_ok-wait.ensures.waits

pub returns-then-is_settled-clause-found : goal.returns-then-is_settled-clause-found
returns-then-is_settled-clause-found c =
    let view = c.args.facts.now in
    let a = c.args.asking.now in
    let t = c.number_of.new.search in
    let counted : IsCounted view t a (node_with c.args.relation.now c.args.object.now) c.in-Some.number = subst (λ o. IfSome o (IsCounted view t a (node_with c.args.relation.now c.args.object.now))) c.in-Some.is c.in_ok-number.ensures.some in
    counted_settled view a t (node_with c.args.relation.now c.args.object.now) c.in-Some.number c.level_of-level.result c.in_ok-number.ensures.goes_on.asking
    c.if-asking.false counted c.level_of-level.ensures
    (λ e st. c.is_sure.ensures e st ∙ c.if-is_sure.false)
    (c.is_settled.ensures.yes c.if-is_settled.true)

pub returns-clause-goes_on : goal.returns-clause-goes_on
returns-clause-goes_on c =
    let view = c.args.facts.now in
    let a = c.args.asking.now in
    let went = c.in_ok-number.ensures.goes_on in
    goes_on view a c.args.search.now c.wait-2.new.self c.requires.asking
    (grew_trans c.args.search.now c.number_of.new.search c.wait-2.new.self went.grew c.in_ok-wait-2.ensures.grew)
    (c.in_ok-wait-2.ensures.running view c.args.asking.now.user.now (Some a.number) went.asking.number.1.0 went.asking.running)

pub returns-clause-found : goal.returns-clause-found
returns-clause-found c =
    let view = c.args.facts.now in
    let a = c.args.asking.now in
    let t = c.number_of.new.search in
    let counted : IsCounted view t a (node_with c.args.relation.now c.args.object.now) c.in-Some.number = subst (λ o. IfSome o (IsCounted view t a (node_with c.args.relation.now c.args.object.now))) c.in-Some.is c.in_ok-number.ensures.some in
    counted_unfinished view t c.wait-2.new.self a (node_with c.args.relation.now c.args.object.now) c.in-Some.number c.level_of-level.result c.if-asking.false counted c.level_of-level.ensures (c.is_settled.ensures.no c.if-is_settled.false) c.in_ok-wait-2.ensures.grew
