use Rattle.std.proofs.Common.{◌≤◌, ℕ, subst}
use Rattle.comparisons.proofs.Moving.{ok_all, rebased}
use Rattle.comparisons.proofs.groups.rebase.Goals as goal

pub returns-clause-ok : goal.returns-clause-ok
returns-clause-ok c =
    let up = subst (λ (n : ℕ). n ≤ c.args.rev) c.base.ensures c.if-rev-base.false in
    ok_all c.rebase.result
    (λ gives base at is. rebased c.args.rows.now c.args.index.now c.rebase.new.self c.args.rev c.at.result
    (record { not_below = c.requires.retained; not_above = c.requires.there }) c.at.ensures up gives base at is)
    c.rebase.ensures.index c.rebase.ensures.base c.rebase.ensures.cursor
