use Rattle.std.proofs.Common.{List, ◌++◌, map, length, ap, sym, subst, ◌∙◌, append-nil, arith}
use Rattle.std.specs.Prelude.{All}
use Rattle.std.specs.Vec.Iter.{into_iter_items}
use Rattle.std.proofs.lemmas.List.Elements.{All-head, All-tail}
use Rattle.std.proofs.lemmas.Result.{err_from_is_err_and}
use Rattle.sqlite_tables.specs.Stored.{span_in}
use Rattle.store.specs.Written.{IsSpan, span_of}
use Rattle.store.specs.inside.Reading.{as_span}
use Rattle.store.specs.Refused.{IsOfSpan}
use Rattle.store.specs.declared.parts.ReadSpan.{ReadSpan}
use Rattle.store.proofs.Deserving.{deserved}
use Rattle.store.proofs.RowSteps.{map_on, all_more}
use Rattle.store.proofs.Slots.{none_left}
use Rattle.store.proofs.spans.read_each.Goals as goal

pub loop-span-init : goal.loop-span-init
loop-span-init c =
    let P = IsOfSpan c.args.head.floor c.args.head.newest in
    let items = into_iter_items c.into_iter-span-iterator.result in
    let gives = c.into_iter-span-iterator.ensures.into_iter_gives in
    let none = ap length c.in_ok-spans.ensures.items in
    record {
      count = let n = ap length gives.0 in omega (arith, n, gives.1, c.args.stored.ok.0);
      same = ap (λ (l : List ReadSpan). map span_of (map as_span l) ++ map span_in items) c.in_ok-spans.ensures.items ∙ ap (map span_in) gives.0;
      are = λ k d lt. absurd (omega (arith, lt, none));
      left = λ all. subst (All P) (sym gives.0) all;
    }

pub loop-span-preserved : goal.loop-span-preserved
loop-span-preserved c =
    let x = c.in-Some.span in
    let next = c.in-Some.ensures.steps in
    record {
      count = let n = ap length next.0 in omega (arith, n, next.1, c.loop-span.invariant.count);
      same = map_on as_span span_of span_in _ _ c.in_ok-read_span.field-0 x _ _ c.in_ok-push.ensures.items c.in_ok-read_span.ensures.same (rw next.0 at c.loop-span.invariant.same);
      are = all_more (λ s. IsSpan c.args.head.floor c.args.head.newest (as_span s)) c.loop-span.spans.items c.push.new.self.items c.in_ok-read_span.field-0 c.in_ok-push.ensures.items c.loop-span.invariant.are c.in_ok-read_span.ensures.is;
      left = λ all. All-tail (IsOfSpan c.args.head.floor c.args.head.newest) x _ (rw next.0 at c.loop-span.invariant.left all);
    }

pub returns-clause-same : goal.returns-clause-same
returns-clause-same c =
    let empty = none_left (into_iter_items c.loop-span.span-iterator) (sym c.loop-span.invariant.count ∙ c.in-None.ensures.steps.0) in
    sym (append-nil _) ∙ rw empty at c.loop-span.invariant.same

pub returns-clause-are : goal.returns-clause-are
returns-clause-are c = c.loop-span.invariant.are

pub returns-in_err-read_span-clause-fault : goal.returns-in_err-read_span-clause-fault
returns-in_err-read_span-clause-fault c =
    let p = err_from_is_err_and c.from_residual-in_err-read_span.result c.from_residual-in_err-read_span.ensures.1 in
    let P = IsOfSpan c.args.head.floor c.args.head.newest in
    rw (p.1, p.2) (deserved (P c.in-Some.span) (All P c.args.stored.items) _ (λ all. All-head P c.in-Some.span _ (rw c.in-Some.ensures.steps.0 at c.loop-span.invariant.left all)) c.in_err-read_span.ensures.fault)
