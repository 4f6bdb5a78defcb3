use Rattle.std.proofs.Common.{◌∙◌, map, sym, subst, refl, arith}
use Rattle.decide.specs.inside.Given.{HasNode, HasSome}
use Rattle.decide.proofs.SearchLemmas.{grew_refl, grew_trans}
use Rattle.std.proofs.lemmas.Bool.{false≢true}
use Rattle.std.proofs.lemmas.List.{length-map}
use Rattle.decide.specs.inside.Reads.{node_with}
use Rattle.decide.proofs.Named.{node_within, node_there, node_named}
use Rattle.decide.proofs.Found.{goes_more, none_more, some_found, unfinished_grows}
use Rattle.decide.proofs.rewrites.some_of.Goals.{in-No, in-Later}
use Rattle.decide.proofs.rewrites.some_of.Goals as goal

pub loop-object-init : goal.loop-object-init
loop-object-init c = (c.requires.asking, grew_refl c.args.search.now, λ e j m lt. absurd (omega (arith, lt)), λ e. absurd (false≢true e))

pub returns-in-Yes-clause-goes_on : goal.returns-in-Yes-clause-goes_on
returns-in-Yes-clause-goes_on c = goes_more c.args.facts.now c.args.asking.now c.args.search.now c.loop-object.search c.asked.new.search c.loop-object.invariant.1 c.in_ok-asked.ensures.goes_on

pub returns-in-Yes-clause-found : goal.returns-in-Yes-clause-found
returns-in-Yes-clause-found c = (
  (node_with c.args.relation.now c.object-item.result),
  node_named c.args.relation.now c.args.objects.now c.loop-object.object-index c.object-item.result (node_with c.args.relation.now c.object-item.result) c.loop-object-test.true c.object-item.is refl,
  subst (HasNode c.args.facts.now c.asked.new.search c.args.asking.now (node_with c.args.relation.now c.object-item.result)) c.in-Yes.is c.in_ok-asked.ensures.found,
)

pub loop-object-preserved : goal.loop-object-preserved
loop-object-preserved c = (
  c.in_ok-asked.ensures.goes_on.asking,
  grew_trans c.args.search.now c.loop-object.search c.asked.new.search c.loop-object.invariant.1 c.in_ok-asked.ensures.goes_on.grew,
  elim c.match-branch-2.branch [
    | in-No w ↦ λ e. none_more c.args.facts.now c.args.asking.now c.loop-object.search c.asked.new.search (map (node_with c.args.relation.now) c.args.objects.now) c.loop-object.object-index (node_with c.args.relation.now c.object-item.result)
        c.in_ok-asked.ensures.goes_on.grew (c.loop-object.invariant.2 (sym w.later-is ∙ e)) (node_within c.args.relation.now c.args.objects.now c.loop-object.object-index c.object-item.result (node_with c.args.relation.now c.object-item.result) c.loop-object-test.true c.object-item.is refl) (node_there c.args.relation.now c.args.objects.now c.loop-object.object-index c.object-item.result (node_with c.args.relation.now c.object-item.result) c.loop-object-test.true c.object-item.is refl)
        (subst (HasNode c.args.facts.now c.asked.new.search c.args.asking.now (node_with c.args.relation.now c.object-item.result)) w.in-No.is c.in_ok-asked.ensures.found)
    | in-Later w ↦ λ e. cc
  ],
  elim c.match-branch-2.branch [
    | in-No w ↦ λ e. unfinished_grows c.loop-object.search c.asked.new.search c.args.asking.now.level c.in_ok-asked.ensures.goes_on.grew (c.loop-object.invariant.3 (sym w.later-is ∙ e))
    | in-Later w ↦ λ e. subst (HasNode c.args.facts.now c.asked.new.search c.args.asking.now (node_with c.args.relation.now c.object-item.result)) w.in-Later.is c.in_ok-asked.ensures.found
  ],
)

pub returns-clause-goes_on : goal.returns-clause-goes_on
returns-clause-goes_on c = record { asking = c.loop-object.invariant.0; grew = c.loop-object.invariant.1 }

pub returns-clause-found : goal.returns-clause-found
returns-clause-found c =
    subst (HasSome c.args.facts.now c.loop-object.search c.args.asking.now (map (node_with c.args.relation.now) c.args.objects.now)) (sym c.no_or_later.ensures)
    (some_found c.args.facts.now c.args.asking.now c.loop-object.search (map (node_with c.args.relation.now) c.args.objects.now) c.loop-object.later c.loop-object.object-index (omega (arith, c.loop-object-test.false, length-map c.args.objects.now (node_with c.args.relation.now))) c.loop-object.invariant.2 c.loop-object.invariant.3)
