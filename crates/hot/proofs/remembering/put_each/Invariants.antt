use Rattle.std.proofs.Common.{◌≡◌, ◌⊎◌, ℕ, List, ◌++◌, length}
use Rattle.std.specs.Prelude.{Some}
use Rattle.region.specs.declared.rule.Told.{Told}
use Rattle.hot.specs.Kept.{told_of}
use Rattle.hot.specs.inside.Remembering.{IsFresh}
use Rattle.hot.proofs.remembering.put_each.Given as goal

abbrev pub invariant-loop-one : goal.invariant-loop-one
invariant-loop-one l = record {
  all : (n : ℕ) (t : Told) → told_of l.told n ≡ Some t → IsFresh l.fn.fresh.items n t ⊎ (told_of l.fn.told n ≡ Some t);
  rest : (xs : List Told) × (l.fn.fresh.items ≡ l.fresh.items ++ xs);
}

abbrev pub decreases-loop-one : goal.decreases-loop-one
decreases-loop-one l = length l.fresh.items
