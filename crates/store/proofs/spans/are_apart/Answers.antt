use Rattle.std.proofs.Common.{◌-◌, refl, arith}
use Rattle.std.proofs.lemmas.List.Sorted.{all_adjacent_more}
use Rattle.store.specs.inside.Following.{Precedes}
use Rattle.store.specs.declared.parts.ReadSpan.{ReadSpan}
use Rattle.store.specs.inside.Reading.{as_span}
use Rattle.store.proofs.Adjacent.{overlap_refused}
use Rattle.store.proofs.RowSteps.{related_at}
use Rattle.store.proofs.spans.are_apart.Goals as goal

pub loop-i-preserved : goal.loop-i-preserved
loop-i-preserved c =
    let R : ReadSpan → ReadSpan → Type 0 = λ a b. Precedes (as_span a) (as_span b) in
    all_adjacent_more c.args.spans.now R c.loop-i.i (omega (arith, c.loop-i.auto.i)) c.loop-i.invariant (λ d.
    related_at R c.args.spans.now (c.loop-i.i - 1) c.loop-i.i c.index-spans-i.result c.index-spans-i-in-loop-i.result d (omega (arith, c.loop-i-test.true)) c.loop-i-test.true c.index-spans-i.is c.index-spans-i-in-loop-i.is (c.if-not-precedes.ensures.passes refl))

pub returns-then-not-precedes-clause-refuses : goal.returns-then-not-precedes-clause-refuses
returns-then-not-precedes-clause-refuses c = λ _.
    overlap_refused c.args.spans.now c.loop-i.i c.index-spans-i.result c.index-spans-i-in-loop-i.result (omega (arith, c.loop-i.auto.i)) c.loop-i-test.true c.index-spans-i.is c.index-spans-i-in-loop-i.is
    (c.if-not-precedes.ensures.refuses refl)
