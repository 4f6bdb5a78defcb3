use Rattle.std.proofs.Common.{◌≡◌, ℕ, List, ◌++◌, drop}
use Rattle.lookup.specs.inside.Underway.{IsUnderway}
use Rattle.lookup.proofs.looking.ask_each.Given as goal

abbrev pub invariant-loop-id : goal.invariant-loop-id
invariant-loop-id g l = record {
  underway : (left : List (List ℕ)) → IsUnderway l.fn.asker l.asked l.fn.found (l.ids ++ left) → IsUnderway l.fn.asker l.asked l.found (drop l.id-index l.ids ++ left);
  tells : g.O.Oracle.tells l.oracle l.fn.asker;
  same : l.asker ≡ l.fn.asker;
}
