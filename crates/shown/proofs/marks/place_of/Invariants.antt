use Rattle.std.proofs.Common.{◌≡◌, ◌++◌, take, drop}
use Rattle.shown.specs.Marks.{without_mark}
use Rattle.shown.proofs.marks.place_of.Given as goal

-- what was passed stays, what is left decides
abbrev pub invariant-loop-i : goal.invariant-loop-i
invariant-loop-i l = take l.i l.marks ++ without_mark (drop l.i l.marks) l.node ≡ without_mark l.marks l.node
