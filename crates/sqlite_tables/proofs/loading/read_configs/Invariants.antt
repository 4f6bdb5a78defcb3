use Rattle.std.proofs.Common.{◌≡◌, map, take}
use Rattle.sqlite_tables.specs.Tables.{config_cells, two}
use Rattle.sqlite_tables.specs.Stored.{config_row_in}
use Rattle.sqlite_tables.proofs.loading.read_configs.Given as goal

abbrev pub invariant-loop-row : goal.invariant-loop-row
invariant-loop-row l = map two (take l.row-index l.rows) ≡ map config_cells (map config_row_in l.configs.items)
