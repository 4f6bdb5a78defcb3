use Rattle.std.proofs.Common.{◌≡◌, map, take}
use Rattle.sqlite_tables.specs.Tables.{entry_cells, two}
use Rattle.sqlite_tables.specs.Stored.{entry_in}
use Rattle.sqlite_tables.proofs.loading.read_entries.Given as goal

abbrev pub invariant-loop-row : goal.invariant-loop-row
invariant-loop-row l = map two (take l.row-index l.rows) ≡ map entry_cells (map entry_in l.entries.items)
