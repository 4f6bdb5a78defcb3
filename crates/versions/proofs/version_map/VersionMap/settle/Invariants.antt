use Rattle.std.proofs.Common.{◌≡◌, ◌+◌, ℕ, List, take, drop}
use Rattle.names.specs.declared.tuple.Tuple.{Tuple}
use Rattle.meaning.specs.TupleSet as set
use Rattle.meaning.specs.Snap.{Snap}
use Rattle.meaning.specs.History.{after_commits, rows_of}
use Rattle.versions.specs.declared.version.Version.{Version}
use Rattle.versions.specs.Versions.{IsLater, AreVersionsFrom}
use Rattle.versions.proofs.version_map.VersionMap.settle.Given as goal

abbrev pub invariant-loop-i : goal.invariant-loop-i
invariant-loop-i l = record {
  versions : (s : Snap) (rev : ℕ) (later : Tuple → List Version) → IsLater later → AreVersionsFrom l.fn.self s.tuples rev l.commits later
      → AreVersionsFrom l.self (after_commits s (take l.i l.commits)).tuples (rev + l.i) (drop l.i l.commits) later;
  spans : (s : Snap) (rev others : ℕ) (later : Tuple → List Version) → IsLater later → AreVersionsFrom l.fn.self s.tuples rev l.commits later
      → l.spans ≡ set.len s.tuples + rows_of l.commits + others → l.left ≡ set.len (after_commits s (take l.i l.commits)).tuples + rows_of (drop l.i l.commits) + others;
}
