use Rattle.std.proofs.Common.{◌≡◌, ◌≤◌, length, take}
use Rattle.rows.specs.Representation.{config_from}
use Rattle.rows.proofs.config_at.config_up_to.Given as goal

-- those that are left decide
abbrev pub invariant-loop-left : goal.invariant-loop-left
invariant-loop-left l = record {
  few : l.left ≤ length l.configs;
  decides : config_from l.base (take l.left l.configs) l.rev ≡ config_from l.base l.configs l.rev;
}

abbrev pub decreases-loop-left : goal.decreases-loop-left
decreases-loop-left l = l.left
