use Rattle.std.proofs.Common.{refl}
use Rattle.std.specs.Prelude.{Ok}
use Rattle.std.specs.Vec.Iter.{into_iter_items}
use Rattle.std.proofs.lemmas.Iterator.{items_from_collect}
use Rattle.std.proofs.lemmas.Iterator.Adapters.{YieldsList-from_vec}
use Rattle.program.proofs.command.list_of.Goals as goal

pub returns-clause-items : goal.returns-clause-items
returns-clause-items c = items_from_collect {E = Unit {0}} (Ok c.in_ok-collect.field-0) c.in_ok-collect.ensures.ran (YieldsList-from_vec (into_iter_items c.args.words) refl c.args.words.rest.ok.0)
