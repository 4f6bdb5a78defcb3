use Rattle.std.proofs.Common.{◌<◌, ◌+◌, ◌++◌, ◌∷◌, [], List, ℕ, length, map, ap, sym, subst, ◌∙◌, arith}
use Rattle.std.specs.List.Sorted.{IsStrictlySortedBy}
use Rattle.std.proofs.lemmas.List.Elements.{All-map}
use Rattle.std.proofs.lemmas.Result.{err_from_is_err_and}
use Rattle.names.specs.Order.{tuple_cmp}
use Rattle.names.specs.declared.commit.Commit.{Commit}
use Rattle.names.specs.declared.commit.Event.{Event}
use Rattle.meaning.specs.Config.{Configured}
use Rattle.store.specs.Written.{IsSpan, commits_above}
use Rattle.store.specs.inside.Moves.{tuples_in}
use Rattle.store.specs.inside.Reading.{as_written, as_span}
use Rattle.store.specs.Refused.{IsWholeAbove, IsWholeAt}
use Rattle.store.proofs.Apart.{in_turn}
use Rattle.store.proofs.Deserving.{deserved}
use Rattle.store.proofs.Sequence.{moves_sorted}
use Rattle.store.proofs.CommitRuns.{one_more, whole_more, differs}
use Rattle.store.proofs.committing.read_parts.Goals as goal

pub loop-i-preserved : goal.loop-i-preserved
loop-i-preserved c =
    let w = as_written c.args.head c.args.spans.items c.args.configs.now in
    let i = c.loop-i.i in
    let floor = c.args.head.floor in
    let before : i < length c.loop-i.slots.items = omega (arith, c.loop-i-test.true, c.loop-i.invariant.len) in
    let P : ℕ → Type 0 = λ n. n < length c.loop-i.slots.items in
    let one = c.in_ok-commit_at.ensures.is (map as_span c.args.spans.items) (c.take_events-events.ensures.taken ∙ c.loop-i.invariant.left i (omega arith) before) in
    record {
      commits =
          c.in_ok-push.ensures.items
          ∙ ap (λ (l : List (Commit Configured)). l ++ c.in_ok-commit_at.field-0 ∷ []) c.loop-i.invariant.commits
          ∙ ap (λ (x : Commit Configured). commits_above w floor i ++ x ∷ []) one.is
          ∙ sym (one_more w floor i);
      whole = whole_more w floor i c.loop-i.invariant.whole one.one;
      len = c.take_events-events.ensures.len ∙ c.loop-i.invariant.len;
      left = λ k le lt. c.take_events-events.ensures.rest k (differs k i le) ∙ c.loop-i.invariant.left k (omega (arith, le)) (omega (arith, lt, c.take_events-events.ensures.len));
    }

pub commit_at-requires-clause-sorted : goal.commit_at-requires-clause-sorted
commit_at-requires-clause-sorted c =
    let i = c.loop-i.i in
    let before : i < length c.loop-i.slots.items = omega (arith, c.loop-i-test.true, c.loop-i.invariant.len) in
    let P : List Event → Type 0 = λ es. IsStrictlySortedBy tuple_cmp (tuples_in es) in
    subst P (sym (c.take_events-events.ensures.taken ∙ c.loop-i.invariant.left i (omega arith) before))
    (moves_sorted c.args.head.floor c.args.head.newest (c.args.head.floor + (i + 1)) (omega arith) (map as_span c.args.spans.items)
    (in_turn as_span c.args.head.floor c.args.head.newest c.args.spans.items c.requires.apart c.requires.spans)
    (All-map (IsSpan c.args.head.floor c.args.head.newest) as_span c.args.spans.items c.requires.spans))

pub returns-in_err-commit_at-clause-fault : goal.returns-in_err-commit_at-clause-fault
returns-in_err-commit_at-clause-fault c =
    let p = err_from_is_err_and c.from_residual-in_err-commit_at.result c.from_residual-in_err-commit_at.ensures.1 in
    let i = c.loop-i.i in
    let rev = c.args.head.floor + (i + 1) in
    let before : i < length c.loop-i.slots.items = omega (arith, c.loop-i-test.true, c.loop-i.invariant.len) in
    rw (p.1, p.2) (deserved (IsWholeAt rev c.args.configs.now c.take_events-events.result.items) (IsWholeAbove (as_written c.args.head c.args.spans.items c.args.configs.now)) _
    (λ whole. (map as_span c.args.spans.items, c.take_events-events.ensures.taken ∙ c.loop-i.invariant.left i (omega arith) before, whole rev (omega arith) (omega (arith, c.loop-i-test.true, c.requires.order))))
    c.in_err-commit_at.ensures.fault)
