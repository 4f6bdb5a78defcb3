use Rattle.std.proofs.Common.{◌≡◌, map, take}
use Rattle.std.specs.Prelude.{All}
use Rattle.sqlite_tables.specs.Stored.{config_row_in}
use Rattle.store.specs.Written.{IsConfigAt, config_row_of}
use Rattle.store.specs.inside.Reading.{as_config}
use Rattle.store.proofs.configs.read_configs.Given as goal

abbrev pub invariant-loop-config : goal.invariant-loop-config
invariant-loop-config l = record {
  same : map config_row_of (map as_config l.configs.items) ≡ map config_row_in (take l.config-index l.stored);
  are : All (λ c. IsConfigAt l.newest (as_config c)) l.configs.items;
}
