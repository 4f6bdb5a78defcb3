use Rattle.std.proofs.Common.{◌≡◌, ◌<◌, ◌^◌, All, map, take}
use Rattle.sqlite_tables.specs.Tables.{id_cells, one}
use Rattle.sqlite_tables.proofs.loading.read_ids.Given as goal

abbrev pub invariant-loop-row : goal.invariant-loop-row
invariant-loop-row l = record {
  read : map one (take l.row-index l.rows) ≡ map id_cells l.ids.items;
  fits : All (λ n. n < 2 ^ 63) l.ids.items;
}
