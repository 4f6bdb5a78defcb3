use Rattle.std.proofs.Common.{get_or, false, ◌≡◌, ◌<◌, length, arith}
use Rattle.std.proofs.lemmas.List.{get_or_default}
use Rattle.strata.specs.declared.graph.Step.{Step}
use Rattle.strata.proofs.Spreads.{spread_old, spread_new}
use Rattle.strata.proofs.search.Search.spread.Goals as goal
use Rattle.strata.proofs.search.Search.spread.Goals.{then-not-index+in_ok-push, else-not-index}

pub loop-s-preserved : goal.loop-s-preserved
loop-s-preserved c =
    let no_step : Step = record { from = 0; to = 0; subtracted = false } in
    let s = get_or c.args.steps.now c.loop-s.s-index no_step in
    let at = λ (d : Step). get_or_default c.args.steps.now c.loop-s.s-index d no_step c.loop-s-test.true in
    let range = c.requires.in_range c.loop-s.s-index no_step c.loop-s-test.true in
    let low : s.to < length c.loop-s.self.marks.items = omega (arith, range, c.loop-s.invariant.long) in
    let mark : get_or c.loop-s.self.marks.items s.to false ≡ get_or c.loop-s.self.marks.items s.to c.index.result.now = get_or_default c.loop-s.self.marks.items s.to false c.index.result.now low in
    elim c.if-not-index.branch [
      | then-not-index+in_ok-push w ↦ rw (w.self-is, w.in_ok-push.ensures.items) (spread_new _ _ _ _ _ _ c.args.by s c.loop-s-test.true at c.requires.place range c.requires.leave (cc) c.loop-s.invariant)
      | else-not-index w ↦ rw w.self-is (spread_old _ _ _ _ _ _ s at (cc) c.loop-s.invariant)
    ]
