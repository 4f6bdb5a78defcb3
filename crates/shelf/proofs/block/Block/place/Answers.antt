use Rattle.shelf.proofs.Looking.{place_at, place_between}
use Rattle.shelf.proofs.block.Block.place.Goals as goal

pub returns-in-Ok : goal.returns-in-Ok
returns-in-Ok g c = place_at c.args.key.now c.in-Ok.i c.args.self.now c.requires c.in-Ok.ensures.ok

pub returns-in-Err : goal.returns-in-Err
returns-in-Err g c = place_between c.args.key.now c.in-Err.i c.args.self.now c.in-Err.ensures.err
