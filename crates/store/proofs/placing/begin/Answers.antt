use Rattle.std.proofs.Common.{◌∙◌, sym}
use Rattle.store.specs.inside.Reading.{as_span}
use Rattle.store.proofs.Slots.{alive_adds}
use Rattle.store.proofs.placing.begin.Goals as goal

pub returns-then-is_alive-clause-placed : goal.returns-then-is_alive-clause-placed
returns-then-is_alive-clause-placed c = alive_adds c.keep.result c.args.slots.now.items c.args.floor (as_span c.args.span) (sym c.is_alive.ensures ∙ c.if-is_alive.true)
