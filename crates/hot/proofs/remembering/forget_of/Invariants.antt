use Rattle.std.proofs.Common.{◌≡◌, ℕ, true, take}
use Rattle.std.specs.Prelude.{Some}
use Rattle.least_sets.specs.World.{has}
use Rattle.region.specs.declared.rule.Told.{Told}
use Rattle.hot.specs.Kept.{told_of}
use Rattle.hot.specs.inside.Remembering.{IsOfAnother}
use Rattle.hot.proofs.remembering.forget_of.Given as goal

abbrev pub invariant-loop-id : goal.invariant-loop-id
invariant-loop-id l = (n : ℕ) (t : Told) → told_of l.told n ≡ Some t
    → (told_of l.initial.told n ≡ Some t) × (has (take l.id-index l.ids) n ≡ true → IsOfAnother l.nodes l.object n)
