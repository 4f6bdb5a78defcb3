use Rattle.std.proofs.Common.{take}
use Rattle.hot.specs.Kept.{IsHot}
use Rattle.shown.specs.inside.Basing.{AreMarked}
use Rattle.shown.proofs.members.members_of.Given as goal

-- the marks so far are marked
abbrev pub invariant-loop-mark : goal.invariant-loop-mark
invariant-loop-mark l = record {
  hot : IsHot l.hot l.view;
  marked : AreMarked (take l.mark-index l.marks) l.hot;
}
