use Rattle.std.proofs.Common.{◌≡◌, ◌+◌, ◌≤◌, ℕ, true, take}
use Rattle.idsets.specs.Sets.{has}
use Rattle.idsets.proofs.algebra.first_missing.Given as goal

abbrev pub invariant-loop-id : goal.invariant-loop-id
invariant-loop-id g l = record {
  all : (id : ℕ) → has (take l.id-index l.ids) id ≡ true → has (g.S.Seek.ids l.many) id ≡ true;
  same : g.S.Seek.ids l.many ≡ g.S.Seek.ids l.fn.many;
  seeks : g.S.Seek.seeks l.many ≤ g.S.Seek.seeks l.fn.many + l.id-index;
}
