use Rattle.std.proofs.Common.{◌≤◌, arith}
use Rattle.group_index.specs.Indices.{base_of}
use Rattle.comparisons.proofs.Moving.{raised}
use Rattle.comparisons.proofs.groups.raise.Goals as goal

pub returns-clause-index : goal.returns-clause-index
returns-clause-index c r is =
    let base = c.base.ensures in
    let above = c.if-rev-base.false in
    let up : base_of c.args.index.now ≤ c.args.rev = omega (arith, base, above) in
    raised r c.args.index.now c.raise.new.self c.args.rev c.raise.ensures.index up c.raise.ensures.base c.raise.ensures.cursor is
