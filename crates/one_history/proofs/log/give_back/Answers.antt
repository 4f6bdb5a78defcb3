use Rattle.std.proofs.Common.{arith}
use Rattle.crossbeam_utils.specs.Seq.{cell_view}
use Rattle.one_history.proofs.Moves.{gives_as}
use Rattle.one_history.proofs.log.give_back.Goals as goal

pub split_pass-requires : goal.split_pass-requires
split_pass-requires g c =
    let v = cell_view c.args.me.now in
    (omega arith, (omega arith, (c.requires.cell, gives_as c.args.me.now.id v v.all v.seen v.mine c.requires.view)))
