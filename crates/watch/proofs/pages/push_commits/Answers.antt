use Rattle.std.proofs.Common.{◌≡◌, ◌+◌, ◌++◌, ℕ, List, ap, sym, ◌∙◌, suc, take, arith, append_assoc}
use Rattle.names.specs.declared.commit.Commit.{Commit}
use Rattle.meaning.specs.Config.{Configured}
use Rattle.watch.specs.declared.watched.WatchedEvent.{WatchedEvent}
use Rattle.watch.specs.Watched.{watched, watched_in}
use Rattle.watch.proofs.Paging.{one_commit_more}
use Rattle.watch.proofs.pages.push_commits.Goals as goal

pub loop-commit-preserved : goal.loop-commit-preserved
loop-commit-preserved c =
    let n = c.args.namespaces.now in
    let above = c.args.above in
    let i = c.loop-commit.commit-index in
    let item : Commit Configured = c.commit-item.result in
    let at = c.loop-commit.invariant.0 in
    let before = c.loop-commit.invariant.1 in
    let old = c.args.events.now.items in
    let rev : c.loop-commit.rev + 1 ≡ above + i + 1 = omega (arith, at) in
    let next : suc i ≡ i + 1 = omega arith in (
      omega (arith, at),
      c.in_ok-push_commit.ensures
          ∙ ap (λ (k : ℕ). c.loop-commit.events.items ++ watched_in n k item) rev
          ∙ ap (λ (ws : List WatchedEvent). ws ++ watched_in n (above + i + 1) item) before
          ∙ append_assoc old (watched n above (take i c.args.commits.now)) (watched_in n (above + i + 1) item)
          ∙ ap (λ (ws : List WatchedEvent). old ++ ws) (sym (one_commit_more n above c.args.commits.now i item c.loop-commit-test.true c.commit-item.is))
          ∙ ap (λ (k : ℕ). old ++ watched n above (take k c.args.commits.now)) next,
    )
