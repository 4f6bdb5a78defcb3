use Rattle.std.proofs.Common.{rules, arith}
use Rattle.crossbeam_utils.specs.Seq.{cell_view}
use Rattle.one_history.proofs.Moves.{blanks, takes_as}
use Rattle.one_history.proofs.log.lend.Goals as goal

pub split_pass-blank-requires : goal.split_pass-blank-requires
split_pass-blank-requires g c =
    (omega arith, (omega arith, (c.requires.cell.0, blanks c.args.me.now.id (cell_view c.args.me.now))))

pub join_pass-requires : goal.join_pass-requires
join_pass-requires g c =
    let me = c.split_pass-blank.new.pass in
    let log = c.replace-all.result in
    let v = cell_view c.args.me.now in (
      omega arith,
      (
        omega arith,
        (
          (search rules, search rules, search rules),
          takes_as me.id (cell_view me) v.seen v.mine log.id (cell_view log) (cell_view c.args.log.now).all (search rules) (search rules),
        ),
      ),
    )
