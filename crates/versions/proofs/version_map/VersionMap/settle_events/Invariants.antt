use Rattle.std.proofs.Common.{◌≡◌, ◌≤◌, ◌+◌, ℕ, List, take, drop}
use Rattle.names.specs.declared.tuple.Tuple.{Tuple}
use Rattle.meaning.specs.TupleSet as set
use Rattle.meaning.specs.TupleSet.{Tuples}
use Rattle.meaning.specs.History.{replay, puts_in}
use Rattle.versions.specs.declared.version.Version.{Version}
use Rattle.versions.specs.Versions.{IsLater, AreVersionsBefore}
use Rattle.versions.proofs.version_map.VersionMap.settle_events.Given as goal

abbrev pub invariant-loop-i : goal.invariant-loop-i
invariant-loop-i l = record {
  most : l.ended ≤ l.i;
  versions : (tuples : Tuples) (rev : ℕ) (later : Tuple → List Version) → IsLater later → AreVersionsBefore l.fn.self tuples rev l.events later
      → AreVersionsBefore l.self (replay tuples (take l.i l.events)) rev (drop l.i l.events) later;
  sum : (tuples : Tuples) (rev : ℕ) (later : Tuple → List Version) → IsLater later → AreVersionsBefore l.fn.self tuples rev l.events later
      → l.ended + set.len (replay tuples (take l.i l.events)) ≡ set.len tuples + puts_in (take l.i l.events);
}
