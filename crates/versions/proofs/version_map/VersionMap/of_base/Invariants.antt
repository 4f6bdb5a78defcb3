use Rattle.std.proofs.Common.{◌≡◌, take}
use Rattle.names.specs.declared.tuple.Tuple.{Tuple}
use Rattle.meaning.specs.TupleSet as set
use Rattle.versions.specs.Versions.{versions_at, base_versions}
use Rattle.versions.proofs.version_map.VersionMap.of_base.Given as goal

abbrev pub invariant-loop-i : goal.invariant-loop-i
invariant-loop-i l = (q : Tuple) → versions_at l.map q ≡ base_versions (set.contains (set.from_list (take l.i l.tuples)) q)
