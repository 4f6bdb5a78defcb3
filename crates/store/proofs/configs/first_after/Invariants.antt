use Rattle.std.proofs.Common.{◌-◌, ◌≤◌, ◌<◌, ℕ, length, get_or}
use Rattle.store.specs.declared.parts.ReadConfig.{ReadConfig}
use Rattle.store.proofs.configs.first_after.Given as goal

abbrev pub invariant-loop-low : goal.invariant-loop-low
invariant-loop-low l = record {
  order : l.low ≤ l.high;
  within : l.high ≤ length l.configs;
  before : (k : ℕ) (d : ReadConfig) → k < l.low → (get_or l.configs k d).rev ≤ l.rev;
  after : (k : ℕ) (d : ReadConfig) → l.high ≤ k → k < length l.configs → l.rev < (get_or l.configs k d).rev;
}

abbrev pub decreases-loop-low : goal.decreases-loop-low
decreases-loop-low l = l.high - l.low
