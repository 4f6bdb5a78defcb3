use Rattle.std.proofs.Common.{◌≡◌, ◌≤◌, length}
use Rattle.decide.specs.inside.Searches.{AreFalling}
use Rattle.decide.specs.inside.Ending.{left}
use Rattle.decide.proofs.search.Search.next.Given as goal

abbrev pub invariant-loop-self : goal.invariant-loop-self
invariant-loop-self l = record {
  opened : l.self.opened.items ≡ l.fn.self.opened.items;
  stacks : l.self.stacks.items ≡ l.fn.self.stacks.items;
  falls : AreFalling l.fn.self.frames.items → AreFalling l.self.frames.items;
  ends : left l.self ≤ left l.fn.self;
}

abbrev pub decreases-loop-self : goal.decreases-loop-self
decreases-loop-self l = length l.self.frames.items
