use Rattle.std.proofs.Common.{◌≡◌, ◌+◌, ◌≤◌, drop}
use Rattle.meaning.specs.History.{puts_in}
use Rattle.store.proofs.committing.puts_in.Given as goal

-- what is counted and what is left are all
abbrev pub invariant-loop-i : goal.invariant-loop-i
invariant-loop-i l = record {
  all : l.puts + puts_in (drop l.i l.events) ≡ puts_in l.events;
  below : l.puts ≤ l.i;
}
