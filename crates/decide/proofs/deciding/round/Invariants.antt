use Rattle.std.proofs.Common.{◌≡◌, ℕ, length, None}
use Rattle.names.specs.declared.node.Node.{Node}
use Rattle.decide.specs.inside.Searches.{IsNumberOf, sures}
use Rattle.decide.specs.inside.Running.{IsRunning}
use Rattle.decide.specs.inside.Reading.{AreRead}
use Rattle.decide.specs.inside.Ending.{left}
use Rattle.decide.proofs.deciding.round.Given as goal

-- as many nodes are opened, and as many have the user
abbrev pub invariant-turns : goal.invariant-turns
invariant-turns g l = record {
  running : IsRunning l.facts l.user l.search None;
  numbers : (i k : ℕ) (n : Node) → IsNumberOf l.fn.search i n k → IsNumberOf l.search i n k;
  tells : g.O.Oracle.tells l.oracle l.facts;
  read : AreRead l.facts l.reads;
  long : length l.search.opened.items ≡ length l.fn.search.opened.items;
  known : sures l.search ≡ sures l.fn.search;
}

abbrev pub decreases-turns : goal.decreases-turns
decreases-turns g l = left l.search
