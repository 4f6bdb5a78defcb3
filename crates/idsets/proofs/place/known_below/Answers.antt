use Rattle.std.proofs.Common.{◌-◌, arith}
use Rattle.idsets.proofs.Placing.{below_to}
use Rattle.idsets.proofs.place.known_below.Goals as goal

pub returns-then-ids-at-clause-below : goal.returns-then-ids-at-clause-below
returns-then-ids-at-clause-below c =
    λ k l. below_to c.args.ids.now c.args.id (c.args.at - 1) c.requires.ascending (omega (arith, c.requires.within)) c.if-ids-at.true k (omega arith)
