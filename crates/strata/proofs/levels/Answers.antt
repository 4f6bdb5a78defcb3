use Rattle.std.proofs.Common.{◌<◌, ℕ}
use Rattle.std.specs.Prelude.{All}
use Rattle.strata.specs.declared.graph.Step.{Step}
use Rattle.strata.proofs.Answering.{same_levels, same_certificate, same_range}
use Rattle.strata.proofs.levels.Goals as goal

pub first_cycle-requires-clause-in_range : goal.first_cycle-requires-clause-in_range
first_cycle-requires-clause-in_range c =
    let same = rw c.deref.ensures.value at c.in_ok-steps.ensures.same in
    rw c.deref-2.ensures.value (same_range _ _ same (λ (s : Step). (s.from < c.args.graph.now.count) × (s.to < c.args.graph.now.count)) c.requires.in_range)

pub returns-in-Some : goal.returns-in-Some
returns-in-Some c =
    let same = rw c.deref.ensures.value at c.in_ok-steps.ensures.same in
    let found = rw (c.in-Some.is, c.deref-2.ensures.value) at c.in_ok-cycle.ensures.found in
    same_certificate _ _ same c.in-Some.cycle.items found

pub raised-requires-clause-in_range : goal.raised-requires-clause-in_range
raised-requires-clause-in_range c =
    let same = rw c.deref.ensures.value at c.in_ok-steps.ensures.same in
    rw c.deref-in-None.ensures.value (same_range _ _ same (λ (s : Step). (s.from < c.args.graph.now.count) × (s.to < c.args.graph.now.count)) c.requires.in_range)

pub returns : goal.returns
returns c =
    let same = rw c.deref.ensures.value at c.in_ok-steps.ensures.same in
    let levels = rw c.deref-in-None.ensures.value at c.in_ok-raised-in-None.ensures in
    same_levels _ _ same c.args.graph.now.count c.in_ok-raised-in-None.field-0.items levels
