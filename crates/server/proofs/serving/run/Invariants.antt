use Rattle.std.specs.Prelude.{◌≡◌, vec_len}
use Rattle.server.specs.Served.{AllSeated}
use Rattle.server.proofs.serving.run.Given as goal

abbrev pub invariant-loop : goal.invariant-loop
invariant-loop g l =
    (vec_len l.machines ≡ l.counter) × AllSeated g.T.Tables g.J.Naming.book g.J.KeeperName.starts (λ w. w.answers.answers.answers) l.machines.items
