use Rattle.std.proofs.Common.{arith}
use Rattle.crossbeam_utils.specs.Seq.{cell_view}
use Rattle.one_history.proofs.Moves.{adds_as}
use Rattle.one_history.proofs.log.add.Goals as goal

pub load_as-requires : goal.load_as-requires
load_as-requires g c =
    let v = cell_view c.args.me.now in
    (omega arith, (omega arith, (c.requires.cell, adds_as c.args.me.now.id g.N.Noted.by v v.all v.seen v.mine g.N.Noted.what c.requires.view c.requires.by)))
