use Rattle.std.proofs.Common.{rules, arith}
use Rattle.crossbeam_utils.specs.Seq.{cell_view}
use Rattle.one_history.proofs.Moves.{comes_as, moves_as}
use Rattle.one_history.proofs.log.Log.worker.Goals as goal

pub split_pass-place-requires : goal.split_pass-place-requires
split_pass-place-requires g c =
    let v = cell_view c.self.inside.place in
    (omega arith, (omega arith, (search rules, comes_as c.self.inside.place.id v v.all c.self.invariant.2)))

pub split_pass-requires : goal.split_pass-requires
split_pass-requires g c =
    let v = cell_view c.self.inside.place in
    let p = c.split_pass-place.new.pass in
    (omega arith, (omega arith, (search rules, moves_as p.id (cell_view p) v.all (search rules))))
