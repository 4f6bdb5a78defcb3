use Rattle.std.proofs.Common.{◌≡◌, ℕ, ◌++◌, ◌+◌, ◌-◌, length, take, drop, ap, subst, ◌∙◌, suc, arith}
use Rattle.names.specs.declared.commit.Commit.{Commit}
use Rattle.meaning.specs.TupleSet as set
use Rattle.meaning.specs.TupleSet.{Tuples}
use Rattle.meaning.specs.Config.{Configured}
use Rattle.meaning.specs.History.{History, after_commits, rows_of}
use Rattle.versions.specs.Versions.{versions_after, base_versions, AreVersionsFrom}
use Rattle.versions.proofs.Settling.{commit_step, rows_here, take_all, drop_all}
use Rattle.versions.proofs.version_map.VersionMap.settle.Goals as goal

pub loop-i-preserved : goal.loop-i-preserved
loop-i-preserved c =
    let h : History = c.args.commits.now in
    let k : ℕ = c.loop-i.i in
    let commit : Commit Configured = c.index-commits-i.result in
    let next : suc k ≡ k + 1 = omega arith in
    record {
      versions = λ s rev later is_later was.
          subst (λ (n : ℕ). AreVersionsFrom c.settle_commit.new.self (after_commits s (take n h)).tuples (rev + n) (drop n h) later) next
          (commit_step c.loop-i.self c.settle_commit.new.self s rev h k commit later c.settle_commit.result c.loop-i-test.true c.index-commits-i.is is_later c.settle_commit.ensures.versions c.settle_commit.ensures.ended (c.loop-i.invariant.versions s rev later is_later was)).0;
      spans = λ s rev others later is_later was spans.
          let step = (commit_step c.loop-i.self c.settle_commit.new.self s rev h k commit later c.settle_commit.result c.loop-i-test.true c.index-commits-i.is is_later c.settle_commit.ensures.versions c.settle_commit.ensures.ended (c.loop-i.invariant.versions s rev later is_later was)).1 in
          let before = c.loop-i.invariant.spans s rev others later is_later was spans in
          let rows = rows_here h k commit c.loop-i-test.true c.index-commits-i.is in
          let less : c.saturating_sub-left.result ≡ c.loop-i.left - c.settle_commit.result = c.saturating_sub-left.ensures in
          subst (λ (n : ℕ). c.saturating_sub-left.result ≡ set.len (after_commits s (take n h)).tuples + rows_of (drop n h) + others) next (omega (arith, step, before, rows, less));
    }

pub returns-clause-versions : goal.returns-clause-versions
returns-clause-versions c = λ s rev later is_later was q.
    let h : History = c.args.commits.now in
    let all : c.loop-i.i ≡ length h = omega (arith, c.loop-i-test.false, c.loop-i.auto.i-end) in
    c.loop-i.invariant.versions s rev later is_later was q
    ∙ ap (λ (xs : History). base_versions (set.contains (after_commits s xs).tuples q) ++ (versions_after (rev + c.loop-i.i) (drop c.loop-i.i h) q ++ later q)) (take_all h c.loop-i.i all)
    ∙ ap (λ (xs : History). base_versions (set.contains (after_commits s h).tuples q) ++ (versions_after (rev + c.loop-i.i) xs q ++ later q)) (drop_all h c.loop-i.i all)

pub returns-clause-spans : goal.returns-clause-spans
returns-clause-spans c = λ s rev others later is_later was spans.
    let h : History = c.args.commits.now in
    let all : c.loop-i.i ≡ length h = omega (arith, c.loop-i-test.false, c.loop-i.auto.i-end) in
    let left = c.loop-i.invariant.spans s rev others later is_later was spans in
    let none : rows_of (drop c.loop-i.i h) ≡ 0 = ap (λ (xs : History). rows_of xs) (drop_all h c.loop-i.i all) in
    let whole : set.len (after_commits s (take c.loop-i.i h)).tuples ≡ set.len (after_commits s h).tuples = ap (λ (xs : History). set.len (after_commits s xs).tuples) (take_all h c.loop-i.i all) in
    omega (arith, left, none, whole)
