use Rattle.hot.specs.Kept.{IsHot, HasSameMarks}
use Rattle.shown.proofs.Following.{snap_in}
use Rattle.shown.proofs.members.members_later.Given as goal

-- it has taken the commits so far, with the same marks
abbrev pub invariant-loop-i : goal.invariant-loop-i
invariant-loop-i l = record {
  hot : IsHot l.hot (snap_in l.rows l.from l.to l.i);
  marked : HasSameMarks l.initial.hot l.hot;
}
