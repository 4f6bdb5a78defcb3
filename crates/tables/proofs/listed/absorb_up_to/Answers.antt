use Rattle.std.proofs.Common.{sym, subst, arith}
use Rattle.rows.specs.Retained.{Retained, HasRoom}
use Rattle.tables.proofs.Storing.{room_listed}
use Rattle.tables.proofs.listed.absorb_up_to.Goals as goal

pub absorb-requires : goal.absorb-requires
absorb-requires c =
    subst (λ (r : Retained). HasRoom r c.index-commits-i.result) (sym c.loop-i.invariant.0)
    (room_listed c.args.rows.now c.args.commits.now c.loop-i.i c.index-commits-i.result c.requires.loadable (omega (arith, c.loop-i-test.true, c.floor-2.ensures, c.requires.high)) c.index-commits-i.is)
