use Rattle.std.proofs.Common.{◌≡◌, true, nat_eq, sym, ◌∙◌, ap, subst, ⊎_elim}
use Rattle.std.specs.Prelude.{Some}
use Rattle.std.proofs.lemmas.Bool.{cases_Bool, false≢true, eqb-true, eq-eqb}
use Rattle.least_sets.specs.World.{Shape, has, arcs_of}
use Rattle.region.specs.Rules.{fact_of}
use Rattle.region.specs.Tables.{listed}
use Rattle.facts.specs.Telling.{MayTell, IsLater}
use Rattle.facts.specs.inside.Tables.{grew_none}
use Rattle.facts.specs.inside.Growing.{may_more}
use Rattle.hot.specs.Kept.{told_of}
use Rattle.hot.specs.inside.Following.{event_after}
use Rattle.hot.proofs.Followed.{may_stay, still_told, turned_told}
use Rattle.hot.proofs.following.follow_one.Goals as goal

pub returns-in_default-clause-tells : goal.returns-in_default-clause-tells
returns-in_default-clause-tells c = λ S are n t at.
    let was = are n t at in
    (may_stay S c.args.event.now c.args.numbers.now.nodes c.args.numbers.now.users n (fact_of t) (λ g. c.in_default.ensures.missing n g) (λ j arc same g. c.in_default.ensures.missing j g) was.0, was.1)

pub returns-in-None-clause-tells : goal.returns-in-None-clause-tells
returns-in-None-clause-tells c = λ S are n t at.
    let nodes = c.args.numbers.now.nodes in
    let users = c.change_own.new.users in
    let id = c.in-Some.id in
    let later : IsLater nodes nodes c.args.numbers.now.users users =
    record { nodes_grew = grew_none nodes; users_grew = c.change_own.ensures.grew; nodes_distinct = λ d. d; users_distinct = λ d. c.len-in-None.ensures.distinct } in
    ⊎_elim
    (λ here.
    let is : n ≡ id = eqb-true n id here in
    let own = c.change_own.ensures.own t (subst (λ k. told_of c.change_own.new.told k ≡ Some t) is at) in
    let left = c.forget_namers.ensures id own.0 own.1 in
    let was = are id own.0 left.0 in
    let told = turned_told S c.args.event.now nodes users c.args.sets.now.back id c.len.ensures.distinct c.in-Some.ensures.found c.args.event.now.tuple.subject.object own.0 t
    (ap (λ r. record { object = c.args.event.now.tuple.subject.object; relation = r }) c.in-None.is) left.1 own.2 (may_more S nodes nodes c.args.numbers.now.users users id (fact_of own.0) later was.0) was.1 in (
      subst (λ k. MayTell (event_after S c.args.event.now) nodes users k (fact_of t)) (sym is) told,
      λ m h. subst (λ k. listed c.args.sets.now.back m k ≡ true) (sym is) (was.1 m (subst (λ (x : Shape). has (arcs_of x) m ≡ true) own.2.rule h)),
    ))
    (λ off.
    let apart : n ≡ id → ⊥ = λ is. false≢true (sym off ∙ eq-eqb n id is) in
    let left = c.forget_namers.ensures n t (c.change_own.ensures.others n t at apart) in
    let was = are n t left.0 in (
      still_told S c.args.event.now nodes users c.args.sets.now.back id c.len.ensures.distinct c.in-Some.ensures.found n t apart left.1
          (may_more S nodes nodes c.args.numbers.now.users users n (fact_of t) later was.0) was.1,
      was.1,
    ))
    (cases_Bool (nat_eq n id))

pub returns-in-Some-relation-clause-tells : goal.returns-in-Some-relation-clause-tells
returns-in-Some-relation-clause-tells c = λ S are n t at.
    let one = c.forget_one.ensures n t at in
    let left = c.forget_namers.ensures n t one.0 in
    let was = are n t left.0 in (
      still_told S c.args.event.now c.args.numbers.now.nodes c.args.numbers.now.users c.args.sets.now.back c.in-Some.id c.len.ensures.distinct c.in-Some.ensures.found n t one.1 left.1 was.0 was.1,
      was.1,
    )
