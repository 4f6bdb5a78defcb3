use Rattle.std.proofs.Common.{◌≡◌, ℕ, [], length}
use Rattle.store.specs.inside.Moves.{slot}
use Rattle.store.proofs.placing.no_events.Given as goal

abbrev pub invariant-loop-i : goal.invariant-loop-i
invariant-loop-i l = record {
  len : length l.slots.items ≡ l.i;
  none : (k : ℕ) → slot l.slots.items k ≡ [];
}
