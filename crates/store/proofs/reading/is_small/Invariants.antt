use Rattle.std.proofs.Common.{◌≡◌, ◌+◌, ◌≤◌, drop}
use Rattle.store.specs.inside.Reading.{current}
use Rattle.store.proofs.reading.is_small.Given as goal

-- what is counted and what is left are all
abbrev pub invariant-loop-span : goal.invariant-loop-span
invariant-loop-span l = record {
  all : l.current + current (drop l.span-index l.spans) ≡ current l.spans;
  below : l.current ≤ l.span-index;
}
