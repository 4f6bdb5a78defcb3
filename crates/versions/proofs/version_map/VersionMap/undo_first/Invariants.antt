use Rattle.std.proofs.Common.{◌≤◌, ◌+◌, ℕ, List, take}
use Rattle.names.specs.declared.tuple.Tuple.{Tuple}
use Rattle.versions.specs.declared.version.Version.{Version}
use Rattle.versions.specs.Versions.{GoesOn}
use Rattle.versions.proofs.Coming.{ChangedFrom}
use Rattle.versions.proofs.version_map.VersionMap.undo_first.Given as goal

abbrev pub invariant-loop-left : goal.invariant-loop-left
invariant-loop-left l = record {
  within : l.left ≤ l.count;
  come : l.change.come + l.left ≤ l.count;
  gone : l.change.gone + l.left ≤ l.count;
  rest : (before : Tuple → List Version) (rev : ℕ) → GoesOn before l.initial.self rev (take l.count l.events) → GoesOn before l.self rev (take l.left (take l.count l.events));
  changed : (before : Tuple → List Version) (rev : ℕ) → GoesOn before l.initial.self rev (take l.count l.events) → ChangedFrom before (take l.count l.events) l.left l.change;
}

abbrev pub decreases-loop-left : goal.decreases-loop-left
decreases-loop-left l = l.left
