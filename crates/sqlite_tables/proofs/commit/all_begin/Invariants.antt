use Rattle.std.proofs.Common.{take}
use Rattle.sqlite_tables.specs.inside.Together.{AllBegin}
use Rattle.sqlite_tables.proofs.commit.all_begin.Given as goal

abbrev pub invariant-loop-event : goal.invariant-loop-event
invariant-loop-event l = AllBegin (take l.event-index l.events)
