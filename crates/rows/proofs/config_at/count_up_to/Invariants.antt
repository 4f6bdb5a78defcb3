use Rattle.std.proofs.Common.{◌≡◌, take, drop}
use Rattle.meaning.specs.Config.{Configured}
use Rattle.rows.specs.Representation.{config_after_settle, last_or, configs_above}
use Rattle.rows.proofs.config_at.count_up_to.Given as goal

-- what is left decides
abbrev pub invariant-loop-i : goal.invariant-loop-i
invariant-loop-i l = record {
  config : (config : Configured) → config_after_settle config l.configs l.rev ≡ config_after_settle (last_or config (take l.i l.configs)) (drop l.i l.configs) l.rev;
  above : configs_above l.rev l.configs ≡ configs_above l.rev (drop l.i l.configs);
}
