use Rattle.std.proofs.Common.{◌≡◌, ℕ, take}
use Rattle.std.specs.Prelude.{◌||◌}
use Rattle.least_sets.specs.World.{has}
use Rattle.delta.specs.inside.Putting.{IsWithout}
use Rattle.delta.proofs.roots.put_each.Given as goal

abbrev pub invariant-loop-id : goal.invariant-loop-id
invariant-loop-id l = ((i : ℕ) → has l.ids i ≡ (has l.initial.ids i || has (take l.id-index l.more) i)) × IsWithout l.initial.ids l.ids l.added.items
