use Rattle.std.proofs.Common.{get_or, false, ◌≡◌, ◌<◌, ◌+◌, arith}
use Rattle.std.proofs.lemmas.List.{get_or_default}
use Rattle.strata.specs.declared.graph.Step.{Step}
use Rattle.strata.specs.Graph.{sign_cost}
use Rattle.strata.proofs.Raising.{pass_none, pass_raises, pass_keeps, raising_few}
use Rattle.strata.proofs.raise.pass.Goals as goal
use Rattle.strata.proofs.raise.pass.Goals.{then-levels-s, else-levels-s}

pub loop-s-init : goal.loop-s-init
loop-s-init c = pass_none c.args.steps.now c.args.levels.now c.requires.raising

pub asked-level-requires-clause-small : goal.asked-level-requires-clause-small
asked-level-requires-clause-small c =
    let no_step : Step = record { from = 0; to = 0; subtracted = false } in
    let few = raising_few c.args.steps.now _ c.loop-s.levels c.requires.none c.loop-s.invariant.raising (get_or c.args.steps.now c.loop-s.s-index no_step).to in
    omega (arith, c.requires.few, few)

pub loop-s-preserved : goal.loop-s-preserved
loop-s-preserved c =
    let no_step : Step = record { from = 0; to = 0; subtracted = false } in
    let s = get_or c.args.steps.now c.loop-s.s-index no_step in
    let at = λ (d : Step). get_or_default c.args.steps.now c.loop-s.s-index d no_step c.loop-s-test.true in
    elim c.if-levels-s.branch [
      | then-levels-s w ↦ rw (w.levels-is, w.rose-is, c.asked-level.ensures) (pass_raises c.args.steps.now c.args.levels.now c.loop-s.levels c.loop-s.s-index c.loop-s.rose s c.requires.none (c.loop-s.s-index, c.loop-s-test.true, at s) (c.requires.in_range c.loop-s.s-index no_step c.loop-s-test.true).0 (omega arith) c.loop-s.invariant)
      | else-levels-s w ↦ rw (w.levels-is, w.rose-is) (pass_keeps c.args.steps.now c.args.levels.now c.loop-s.levels c.loop-s.s-index c.loop-s.rose s at (omega arith) c.loop-s.invariant)
    ]
