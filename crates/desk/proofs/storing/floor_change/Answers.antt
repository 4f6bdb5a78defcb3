use Rattle.std.proofs.Common.{arith}
use Rattle.desk.proofs.storing.floor_change.Goals as goal

pub returns-clause-can : goal.returns-clause-can
returns-clause-can c =
    let can = c.requires.can in
    let above = can.above in
    record { above = omega (arith, above); below = can.there; small = c.requires.small; first_is = c.last_config_below-first.ensures }
