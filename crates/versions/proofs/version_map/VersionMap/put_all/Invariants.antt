use Rattle.std.proofs.Common.{◌≤◌, take}
use Rattle.versions.specs.Versions.{GoesOn, Changes, versions_at}
use Rattle.versions.proofs.version_map.VersionMap.put_all.Given as goal

abbrev pub invariant-loop-i : goal.invariant-loop-i
invariant-loop-i l = record {
  come : l.change.come ≤ l.i;
  gone : l.change.gone ≤ l.i;
  versions : GoesOn (versions_at l.fn.self) l.self l.rev (take l.i l.events);
  changes : Changes (versions_at l.fn.self) (take l.i l.events) l.change;
}
