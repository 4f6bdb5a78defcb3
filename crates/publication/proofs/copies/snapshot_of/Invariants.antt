use Rattle.std.proofs.Common.{◌≡◌, drop}
use Rattle.publication.proofs.Putting.{put_all}
use Rattle.publication.proofs.copies.snapshot_of.Given as goal

-- with the tuples that are left, it is the whole
abbrev pub invariant-loop-tuple : goal.invariant-loop-tuple
invariant-loop-tuple l = record {
  config : l.snapshot.config ≡ l.initial.snapshot.config;
  tuples : put_all l.snapshot.tuples (drop l.tuple-index l.tuples) ≡ put_all l.initial.snapshot.tuples l.tuples;
}
