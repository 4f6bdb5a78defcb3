use Rattle.std.specs.Prelude.{All}
use Rattle.std.proofs.lemmas.Result.{err_from_is_err_and}
use Rattle.sqlite_tables.specs.Stored.{config_row_in}
use Rattle.store.specs.Written.{IsConfigAt, config_row_of}
use Rattle.store.specs.inside.Reading.{as_config}
use Rattle.store.specs.Refused.{IsOfConfig}
use Rattle.store.proofs.Deserving.{deserved, one_of}
use Rattle.store.proofs.RowSteps.{map_more, all_more}
use Rattle.store.proofs.configs.read_configs.Goals as goal

pub loop-config-preserved : goal.loop-config-preserved
loop-config-preserved c = record {
  same = map_more as_config config_row_of config_row_in c.loop-config.configs.items c.push.new.self.items c.args.stored.now c.loop-config.config-index c.in_ok-read_config.field-0 c.config-item.result c.in_ok-push.ensures.items c.loop-config-test.true c.config-item.is c.in_ok-read_config.ensures.same c.loop-config.invariant.same;
  are = all_more (λ s. IsConfigAt c.args.newest (as_config s)) c.loop-config.configs.items c.push.new.self.items c.in_ok-read_config.field-0 c.in_ok-push.ensures.items c.loop-config.invariant.are c.in_ok-read_config.ensures.is;
}

pub returns-in_err-read_config-clause-fault : goal.returns-in_err-read_config-clause-fault
returns-in_err-read_config-clause-fault c =
    let p = err_from_is_err_and c.from_residual.result c.from_residual.ensures.1 in
    rw (p.1, p.2) (deserved (IsOfConfig c.args.newest c.config-item.result) (All (IsOfConfig c.args.newest) c.args.stored.now) _
    (one_of (IsOfConfig c.args.newest) c.args.stored.now c.loop-config.config-index c.config-item.result c.loop-config-test.true c.config-item.is) c.in_err-read_config.ensures.fault)
