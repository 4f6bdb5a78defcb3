use Rattle.std.proofs.Common.{◌≡◌, ◌+◌, ◌++◌, ℕ, List, min, ap, ap₂, sym, subst, ◌∙◌}
use Rattle.std.specs.List.Sorted.{IsStrictlySortedBy}
use Rattle.watch.specs.declared.watched.WatchedEvent.{WatchedEvent}
use Rattle.watch.specs.Watched.{watched, watched_cmp}
use Rattle.watch.proofs.Ordered.{watched_ordered}
use Rattle.watch.proofs.pages.page.Goals as goal

pub returns-clause-ok : goal.returns-clause-ok
returns-clause-ok c =
    let n = c.args.namespaces.now in
    let commits = c.commits.result.now in
    let all : c.of.result ≡ watched n c.args.cursor commits =
    c.of.ensures ∙ c.in_ok-push_commits.ensures ∙ ap (λ (ws : List WatchedEvent). ws ++ watched n c.args.cursor commits) c.new-events.ensures.items in
    record {
      heartbeat = c.min-heartbeat.ensures ∙ ap₂ (λ (k last : ℕ). min (c.args.cursor + k) last) c.from.ensures c.newest-newest.ensures.newest;
      events = all ∙ ap (watched n c.args.cursor) c.commits.ensures.commits;
      ordered = subst (IsStrictlySortedBy watched_cmp) (sym all) (watched_ordered n c.args.cursor commits c.commits.ensures.ordered);
    }
