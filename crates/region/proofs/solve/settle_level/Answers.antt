use Rattle.std.proofs.Common.{◌≡◌, ◌<◌, length, sym, ◌∙◌, ⊎_elim}
use Rattle.std.proofs.lemmas.Bool.{eqb-true, eq-eqb, false≢true}
use Rattle.least_sets.specs.World.{has}
use Rattle.region.specs.Tables.{over}
use Rattle.least_sets.specs.Steps.{none}
use Rattle.region.specs.Steps.{rooms}
use Rattle.least_sets.proofs.StepLemmas.{steps_join}
use Rattle.region.proofs.Round.{settled_if, nil_from_none, none_from_nil}
use Rattle.region.proofs.solve.settle_level.Goals as goal

pub loop-waiting-init : goal.loop-waiting-init
loop-waiting-init c = record { steps = λ world tells. none; waits = c.requires.waits }

pub returns-then-is_empty-clause-steps : goal.returns-then-is_empty-clause-steps
returns-then-is_empty-clause-steps c = λ world tells. steps_join (c.loop-waiting.invariant.steps world tells) (c.in_ok-next.ensures.steps world tells)

pub returns-then-is_empty-clause-settled : goal.returns-then-is_empty-clause-settled
returns-then-is_empty-clause-settled c =
    let none_left : length c.in_ok-next.next ≡ 0 = eqb-true (length c.in_ok-next.next) 0 (sym c.is_empty.ensures ∙ c.if-is_empty.true) in
    settled_if c.args.told.now c.args.level (over c.round.new.fresh c.args.kept.now.rows) (has c.in_ok-next.next) (none_from_nil c.in_ok-next.next none_left) c.in_ok-next.ensures.waits

pub loop-waiting-smaller : goal.loop-waiting-smaller
loop-waiting-smaller c =
    let fell : rooms c.args.told.now (over c.round.new.fresh c.args.kept.now.rows) < rooms c.args.told.now (over c.loop-waiting.fresh c.args.kept.now.rows) = ⊎_elim
    (λ l. l)
    (λ no_more. absurd (false≢true (sym c.if-is_empty.false ∙ c.is_empty.ensures ∙ eq-eqb (length c.in_ok-next.next) 0 (nil_from_none c.in_ok-next.next no_more))))
    c.in_ok-next.ensures.less in
    fell

pub loop-waiting-preserved : goal.loop-waiting-preserved
loop-waiting-preserved c = record {
  steps = λ world tells. steps_join (c.loop-waiting.invariant.steps world tells) (c.in_ok-next.ensures.steps world tells);
  waits = c.in_ok-next.ensures.waits;
}
