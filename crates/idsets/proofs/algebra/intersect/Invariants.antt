use Rattle.std.proofs.Common.{◌≡◌, ◌+◌, ◌≤◌}
use Rattle.idsets.proofs.Merging.{IsCommon}
use Rattle.idsets.proofs.algebra.intersect.Given as goal

abbrev pub invariant-loop-id : goal.invariant-loop-id
invariant-loop-id g l = record {
  common : IsCommon l.ids (g.S.Seek.ids l.many) l.both.items l.id-index;
  same : g.S.Seek.ids l.many ≡ g.S.Seek.ids l.fn.many;
  seeks : g.S.Seek.seeks l.many ≤ g.S.Seek.seeks l.fn.many + l.id-index;
}
