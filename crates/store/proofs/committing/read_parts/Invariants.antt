use Rattle.std.proofs.Common.{◌≡◌, ℕ, ◌+◌, ◌-◌, ◌<◌, ◌≤◌, length, map, true}
use Rattle.store.specs.Written.{commits_above, brings_one}
use Rattle.store.specs.inside.Moves.{slot, moves}
use Rattle.store.specs.inside.Reading.{as_written, as_span}
use Rattle.store.proofs.committing.read_parts.Given as goal

abbrev pub invariant-loop-i : goal.invariant-loop-i
invariant-loop-i l = record {
  commits : l.commits.items ≡ commits_above (as_written l.head l.fn.spans.items l.configs) l.head.floor l.i;
  whole : (rev : ℕ) → l.head.floor < rev → rev ≤ l.head.floor + l.i → brings_one (as_written l.head l.fn.spans.items l.configs) rev ≡ true;
  len : length l.slots.items ≡ l.head.newest - l.head.floor;
  left : (k : ℕ) → l.i ≤ k → k < length l.slots.items → slot l.slots.items k ≡ moves (l.head.floor + (k + 1)) (map as_span l.fn.spans.items);
}
