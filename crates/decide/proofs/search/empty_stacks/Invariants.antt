use Rattle.std.proofs.Common.{◌≡◌, [], length}
use Rattle.std.specs.Prelude.{Contains}
use Rattle.decide.proofs.search.empty_stacks.Given as goal

abbrev pub invariant-loop : goal.invariant-loop
invariant-loop l = record {
  long : length l.stacks.items ≡ l.counter;
  empty : (w : _) → Contains l.stacks.items w → w.items ≡ [];
}
