-- A change that is stored: what it is without what spares tables a look-up, and which step it is.
use Rattle.tables.specs.declared.change.TableChange as stored
use Rattle.tables.specs.declared.change.TableChange.TheVariants.{Commit, Trim}
use Rattle.shown.specs.declared.step.Step.{Step}
use Rattle.shown.specs.declared.step.Step.TheVariants as steps
use Rattle.shown.specs.Standing.{Standing, after_step, CanGoBack}
use Rattle.desk.specs.TableChanges.{TableChange, Adds, Raises}

abbrev pub plain : stored.TableChange → TableChange
plain (Commit rev commit puts) = Adds commit
plain (Trim floor first) = Raises floor

abbrev pub step_of : stored.TableChange → Step
step_of (Commit rev commit puts) = steps.Commit commit
step_of (Trim floor first) = steps.Trim floor

-- a commit that was made can be taken back
abbrev pub CanTakeBack : Standing → stored.TableChange → Type 0
CanTakeBack s (Commit rev commit puts) = CanGoBack (after_step s (steps.Commit commit))
CanTakeBack s (Trim floor first) = Unit {0}
