use Rattle.std.proofs.Common.{ℕ, ◌+◌, ap}
use Rattle.desk.proofs.Standings.{can_go_back}
use Rattle.desk.proofs.storing.commit_change.Goals as goal

pub returns-clause-can : goal.returns-clause-can
returns-clause-can c = (c.requires.next, ap (λ (n : ℕ). n + 1) c.newest.ensures.newest, c.requires.puts)

pub returns-clause-back : goal.returns-clause-back
returns-clause-back c = can_go_back c.args.own.now c.args.commit c.newest.ensures.steady
