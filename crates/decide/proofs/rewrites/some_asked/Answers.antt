use Rattle.std.proofs.Common.{◌∙◌, sym, subst, arith}
use Rattle.decide.specs.inside.Given.{HasNode, HasSome}
use Rattle.decide.proofs.SearchLemmas.{grew_refl, grew_trans}
use Rattle.std.proofs.lemmas.Bool.{false≢true}
use Rattle.decide.proofs.Found.{goes_more, none_more, some_found, unfinished_grows}
use Rattle.decide.proofs.rewrites.some_asked.Goals.{in-No, in-Later}
use Rattle.decide.proofs.rewrites.some_asked.Goals as goal

pub loop-node-init : goal.loop-node-init
loop-node-init c = (c.requires.asking, grew_refl c.args.search.now, λ e j m lt. absurd (omega (arith, lt)), λ e. absurd (false≢true e))

pub returns-in-Yes-clause-goes_on : goal.returns-in-Yes-clause-goes_on
returns-in-Yes-clause-goes_on c = goes_more c.args.facts.now c.args.asking.now c.args.search.now c.loop-node.search c.asked.new.search c.loop-node.invariant.1 c.in_ok-asked.ensures.goes_on

pub loop-node-preserved : goal.loop-node-preserved
loop-node-preserved c = (
  c.in_ok-asked.ensures.goes_on.asking,
  grew_trans c.args.search.now c.loop-node.search c.asked.new.search c.loop-node.invariant.1 c.in_ok-asked.ensures.goes_on.grew,
  elim c.match-branch-2.branch [
    | in-No w ↦ λ e. none_more c.args.facts.now c.args.asking.now c.loop-node.search c.asked.new.search c.args.nodes.now c.loop-node.node-index c.node-item.result
        c.in_ok-asked.ensures.goes_on.grew (c.loop-node.invariant.2 (sym w.later-is ∙ e)) c.loop-node-test.true c.node-item.is
        (subst (HasNode c.args.facts.now c.asked.new.search c.args.asking.now c.node-item.result) w.in-No.is c.in_ok-asked.ensures.found)
    | in-Later w ↦ λ e. cc
  ],
  elim c.match-branch-2.branch [
    | in-No w ↦ λ e. unfinished_grows c.loop-node.search c.asked.new.search c.args.asking.now.level c.in_ok-asked.ensures.goes_on.grew (c.loop-node.invariant.3 (sym w.later-is ∙ e))
    | in-Later w ↦ λ e. subst (HasNode c.args.facts.now c.asked.new.search c.args.asking.now c.node-item.result) w.in-Later.is c.in_ok-asked.ensures.found
  ],
)

pub returns-clause-goes_on : goal.returns-clause-goes_on
returns-clause-goes_on c = record { asking = c.loop-node.invariant.0; grew = c.loop-node.invariant.1 }

pub returns-clause-found : goal.returns-clause-found
returns-clause-found c =
    subst (HasSome c.args.facts.now c.loop-node.search c.args.asking.now c.args.nodes.now) (sym c.no_or_later.ensures)
    (some_found c.args.facts.now c.args.asking.now c.loop-node.search c.args.nodes.now c.loop-node.later c.loop-node.node-index (omega (arith, c.loop-node-test.false)) c.loop-node.invariant.2 c.loop-node.invariant.3)
