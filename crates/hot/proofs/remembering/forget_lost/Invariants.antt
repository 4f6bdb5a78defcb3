use Rattle.std.proofs.Common.{◌≡◌, ℕ, true, take}
use Rattle.std.specs.Prelude.{Some}
use Rattle.least_sets.specs.World.{has}
use Rattle.region.specs.declared.rule.Told.{Told}
use Rattle.region.specs.Tables.{kept}
use Rattle.hot.specs.Kept.{told_of}
use Rattle.hot.proofs.remembering.forget_lost.Given as goal

abbrev pub invariant-loop-node : goal.invariant-loop-node
invariant-loop-node l = (n : ℕ) (t : Told) → told_of l.told n ≡ Some t
    → (told_of l.initial.told n ≡ Some t) × (has (take l.node-index l.nodes) n ≡ true → kept l.sets.rows n ≡ true)
