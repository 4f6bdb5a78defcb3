use Rattle.std.proofs.Common.{ℕ, ◌≡◌, ◌<◌}
use Rattle.std.specs.Prelude.{Some}
use Rattle.std.specs.List.{slice_get}
use Rattle.region.specs.declared.rule.Told.{Told}
use Rattle.region.proofs.solve.level_count.Given as goal

abbrev pub invariant-loop-t : goal.invariant-loop-t
invariant-loop-t l = (i : ℕ) (t : Told) → i < l.t-index → slice_get l.told i ≡ Some t → t.level < l.count
