use Rattle.std.proofs.Common.{◌≡◌, ℕ, List, ◌++◌, ◌+◌, ◌<◌, ◌≤◌, length, take, drop, ap, sym, subst, ◌∙◌, suc, arith}
use Rattle.std.specs.Prelude.{cond}
use Rattle.names.specs.Order.{is_same_tuple}
use Rattle.names.specs.declared.tuple.Tuple.{Tuple}
use Rattle.names.specs.declared.commit.Event.{Event}
use Rattle.meaning.specs.TupleSet as set
use Rattle.meaning.specs.TupleSet.{Tuples}
use Rattle.meaning.specs.History.{replay, puts_in}
use Rattle.versions.specs.Versions.{versions_at, is_based, after_settle, versions_in, base_versions, AreVersionsBefore}
use Rattle.versions.proofs.Coming.{one, one_most}
use Rattle.versions.proofs.Steps.{replay_more}
use Rattle.versions.proofs.Settling.{settle_step, ended_step, take_all, drop_all}
use Rattle.versions.proofs.version_map.VersionMap.settle_events.Goals as goal
use Rattle.versions.proofs.version_map.VersionMap.settle_events.Goals.{then-settle_one, else-settle_one}

pub loop-i-preserved : goal.loop-i-preserved
loop-i-preserved c =
    let es : List Event = c.args.events.now in
    let k : ℕ = c.loop-i.i in
    let e : Event = c.event-event.result in
    let next : suc k ≡ k + 1 = omega arith in
    let small : k < length es = subst (λ (n : ℕ). k < n) c.len-i-end.ensures.len c.loop-i-test.true in
    let most = c.loop-i.invariant.most in
    let plus : c.loop-i.ended ≡ c.loop-i.ended + 0 = omega arith in
    let ended : c.if-settle_one.ended ≡ c.loop-i.ended + one c.settle_one.result =
    elim c.if-settle_one.branch [
      | then-settle_one w ↦ w.ended-is ∙ ap (λ b. c.loop-i.ended + one b) (sym w.if-settle_one.true)
      | else-settle_one w ↦ w.ended-is ∙ plus ∙ ap (λ b. c.loop-i.ended + one b) (sym w.if-settle_one.false)
    ] in
    let changed : (q : Tuple) → versions_at c.settle_one.new.self q ≡ cond (is_same_tuple q e.tuple) (after_settle (versions_at c.loop-i.self q)) (versions_at c.loop-i.self q) = λ q.
    c.settle_one.ensures.versions q ∙ ap (λ (t : Tuple). cond (is_same_tuple q t) (after_settle (versions_at c.loop-i.self q)) (versions_at c.loop-i.self q)) c.tuple_ref.ensures in
    let held : c.settle_one.result ≡ is_based (versions_at c.loop-i.self e.tuple) = c.settle_one.ensures.was_based ∙ ap (λ (t : Tuple). is_based (versions_at c.loop-i.self t)) c.tuple_ref.ensures in
    let ended_most : one c.settle_one.result ≤ 1 = one_most c.settle_one.result in
    record {
      most = omega (arith, most, ended, ended_most);
      versions = λ tuples rev later is_later was.
          subst (λ (n : ℕ). AreVersionsBefore c.settle_one.new.self (replay tuples (take n es)) rev (drop n es) later) next
          (subst (λ (t : Tuples). AreVersionsBefore c.settle_one.new.self t rev (drop (suc k) es) later) (sym (replay_more tuples es k e small c.event-event.ensures))
          (settle_step c.loop-i.self c.settle_one.new.self (replay tuples (take k es)) rev es k e later small c.event-event.ensures
          (c.loop-i.invariant.versions tuples rev later is_later was) changed));
      sum = λ tuples rev later is_later was.
          subst (λ (n : ℕ). c.if-settle_one.ended + set.len (replay tuples (take n es)) ≡ set.len tuples + puts_in (take n es)) next
          (ended_step c.loop-i.self tuples rev es k e later c.loop-i.ended c.if-settle_one.ended c.settle_one.result small c.event-event.ensures is_later
          (c.loop-i.invariant.versions tuples rev later is_later was) held ended (c.loop-i.invariant.sum tuples rev later is_later was));
    }

pub returns-clause-versions : goal.returns-clause-versions
returns-clause-versions c = λ tuples rev later is_later was q.
    let es : List Event = c.args.events.now in
    let all : c.loop-i.i ≡ length es = omega (arith, c.loop-i-test.false, c.loop-i.auto.i-end, c.len-i-end.ensures.len) in
    c.loop-i.invariant.versions tuples rev later is_later was q
    ∙ ap (λ (xs : List Event). base_versions (set.contains (replay tuples xs) q) ++ (versions_in (rev + 1) (drop c.loop-i.i es) q ++ later q)) (take_all es c.loop-i.i all)
    ∙ ap (λ (xs : List Event). base_versions (set.contains (replay tuples es) q) ++ (versions_in (rev + 1) xs q ++ later q)) (drop_all es c.loop-i.i all)

pub returns-clause-ended : goal.returns-clause-ended
returns-clause-ended c = λ tuples rev later is_later was.
    let es : List Event = c.args.events.now in
    let all : c.loop-i.i ≡ length es = omega (arith, c.loop-i-test.false, c.loop-i.auto.i-end, c.len-i-end.ensures.len) in
    subst (λ (xs : List Event). c.loop-i.ended + set.len (replay tuples xs) ≡ set.len tuples + puts_in xs) (take_all es c.loop-i.i all) (c.loop-i.invariant.sum tuples rev later is_later was)
