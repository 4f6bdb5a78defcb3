use Rattle.std.proofs.Common.{ℕ, arith}
use Rattle.std.proofs.lemmas.List.{length-take, length-drop}
use Rattle.http_api.proofs.Holding.{used}
use Rattle.http_api.proofs.inbox.Inbox.use_up.Goals as goal

pub returns : goal.returns
returns c =
    let b = c.args.self.now in
    used b.bytes.items b.start b.end c.args.count (omega (arith, length-take {A = ℕ}, length-drop {A = ℕ}))
