use Rattle.std.proofs.Common.{◌≡◌, ◌≤◌, ◌<◌, ℕ, length}
use Rattle.decide.specs.inside.Searches.{IsStacked}
use Rattle.decide.proofs.search.Search.pop_below.Given as goal

abbrev pub invariant-loop-left : goal.invariant-loop-left
invariant-loop-left l = record {
  opened : l.self.opened.items ≡ l.fn.self.opened.items;
  frames : l.self.frames ≡ l.fn.self.frames;
  stacks : l.self.stacks.items ≡ l.fn.self.stacks.items;
  there : l.left ≤ length l.fn.self.stacks.items;
  low : l.left ≤ l.level;
  empty : (k i : ℕ) → l.left ≤ k → k < l.level → IsStacked l.fn.self k i → ⊥;
}

abbrev pub decreases-loop-left : goal.decreases-loop-left
decreases-loop-left l = l.left
