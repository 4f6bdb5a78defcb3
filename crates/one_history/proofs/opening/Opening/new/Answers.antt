use Rattle.std.proofs.Common.{rules, arith, [], ◌∷◌}
use Rattle.crossbeam_utils.specs.Seq.{cell_view}
use Rattle.one_history.proofs.Moves.{begins, moves_as}
use Rattle.one_history.proofs.opening.Opening.new.Goals as goal

pub ruled-requires : goal.ruled-requires
ruled-requires g c = (omega arith, (omega arith, begins (0 ∷ [])))

pub split_pass-place-requires : goal.split_pass-place-requires
split_pass-place-requires g c =
    let p = c.in_ok-cell.first in
    (omega arith, (omega arith, (search rules, moves_as p.id (cell_view p) [] (search rules))))
