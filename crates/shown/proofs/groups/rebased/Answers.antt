use Rattle.std.proofs.Common.{◌<◌, ◌≤◌, ℕ, sym, subst}
use Rattle.rows.specs.Retained.{snap_at}
use Rattle.shown.proofs.Indexing.{above, rebased}
use Rattle.shown.proofs.Outcomes.{ok_all}
use Rattle.shown.proofs.groups.rebased.Goals as goal

pub returns-then-rev-base-clause-ok : goal.returns-then-rev-base-clause-ok
returns-then-rev-base-clause-ok c cursor was =
    let r = c.args.rows.now in
    above (snap_at r) r.floor cursor c.args.rev c.args.index.now was (subst (λ (n : ℕ). c.args.rev < n) c.base.ensures c.if-rev-base.true)

pub returns-clause-ok : goal.returns-clause-ok
returns-clause-ok c =
    let r = c.args.rows.now in
    let below = subst (λ (n : ℕ). n ≤ c.args.rev) c.base.ensures c.if-rev-base.false in
    ok_all c.rebase.result
    (λ is base at cursor was. rebased (snap_at r) r.floor cursor c.args.rev c.args.index.now was c.rebase.new.self c.requires.retained (is (snap_at r) was.index_of below (sym c.at.ensures)) base at)
    c.rebase.ensures.index c.rebase.ensures.base c.rebase.ensures.cursor
