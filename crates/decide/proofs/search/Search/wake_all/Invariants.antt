use Rattle.std.proofs.Common.{◌≡◌, take}
use Rattle.decide.specs.inside.Searches.{Wakes}
use Rattle.decide.proofs.search.Search.wake_all.Given as goal

abbrev pub invariant-loop-i : goal.invariant-loop-i
invariant-loop-i l = record {
  opened : l.self.opened.items ≡ l.initial.self.opened.items;
  wakes : Wakes l.initial.self l.self (take l.i l.waiting);
}
