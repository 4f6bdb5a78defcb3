use Rattle.std.proofs.Common.{◌≡◌, ◌+◌, ◌*◌, take}
use Rattle.sqlite.specs.Values.{bound}
use Rattle.sqlite_tables.specs.inside.Together.{all_values}
use Rattle.sqlite_tables.proofs.parameters.fill.Given as goal

abbrev pub invariant-loop-at : goal.invariant-loop-at
invariant-loop-at l = bound (take (5 * l.at + 1) l.values) ≡ all_values l.rev l.first (take l.at l.events)
