-- Which steps come after the first.
use Rattle.shown.specs.declared.step.Step.{Step}
use Rattle.shown.specs.declared.step.Step.TheVariants.{Open, Commit, Take, Trim, Marking, Rebase}

-- the step is no opening
abbrev pub IsLater : Step → Type 0
IsLater (Open loaded) = ⊥
IsLater (Commit commit) = Unit {0}
IsLater (Take part commits) = Unit {0}
IsLater (Trim floor) = Unit {0}
IsLater (Marking marking) = Unit {0}
IsLater (Rebase rev) = Unit {0}
