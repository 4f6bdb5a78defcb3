-- None of the endings that were tried, and fit, makes a head.
use Rattle.std.proofs.Common.{ℕ, ◌+◌, ◌-◌, ◌≤◌, ◌<◌, ◌++◌, length, drop}
use Rattle.http_api.specs.Heads.{max_head}
use Rattle.http_api.specs.inside.Endings.{shortest, HasNoHead}
use Rattle.http_api.proofs.ending.can_be_ended.Given as goal

abbrev pub invariant-loop-at : goal.invariant-loop-at
invariant-loop-at l = (j : ℕ) → j < l.at → length l.bytes + (15 - j) ≤ max_head → HasNoHead (l.bytes ++ drop j shortest)
