use Rattle.std.proofs.Common.{◌≡◌, ℕ, List, ◌++◌, drop}
use Rattle.lookup.specs.inside.Pages.{ids_of}
use Rattle.lookup.specs.inside.Underway.{IsUnderway}
use Rattle.lookup.proofs.looking.look_through.Given as goal

abbrev pub invariant-loop-tuple : goal.invariant-loop-tuple
invariant-loop-tuple g l = record {
  underway : (left : List (List ℕ)) → IsUnderway l.fn.asker l.asked l.fn.found (ids_of l.tuples ++ left)
      → IsUnderway l.fn.asker l.asked l.found (ids_of (drop l.tuple-index l.tuples) ++ left);
  tells : g.O.Oracle.tells l.oracle l.fn.asker;
  same : l.asker ≡ l.fn.asker;
}
