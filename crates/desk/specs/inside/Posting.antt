-- What is posted without the tables, and why a change is not posted that was judged and accepted.
use Rattle.names.specs.declared.refusal.Refusal.{Refusal}
use Rattle.shown.specs.declared.step.Step.{Step}
use Rattle.shown.specs.declared.step.Step.TheVariants.{Open, Commit, Take, Trim, Marking, Rebase}

-- nothing speaks against it any more
abbrev pub NoCause : Refusal → Type 0
NoCause why = ⊥

-- the step leaves the history as it is, which is all that the tables hold
abbrev pub LeavesHistory : Step → Type 0
LeavesHistory (Open loaded) = ⊥
LeavesHistory (Commit commit) = ⊥
LeavesHistory (Take part commits) = Unit {0}
LeavesHistory (Trim floor) = ⊥
LeavesHistory (Marking marking) = Unit {0}
LeavesHistory (Rebase rev) = Unit {0}
