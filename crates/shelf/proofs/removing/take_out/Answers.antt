use Rattle.shelf.proofs.Taking.{out_joined}
use Rattle.shelf.proofs.removing.take_out.Goals as goal

pub returns-else-count-eq0-clause-rest : goal.returns-else-count-eq0-clause-rest
returns-else-count-eq0-clause-rest g c =
    out_joined c.args.blocks.now.items c.args.at c.args.i c.requires.within c.index_mut-block.result.now c.remove-value.new.self c.index_mut-block.ensures.value c.remove-value.ensures.rest
