-- A change that is stored, beside its step and what it is alone.
use Rattle.std.proofs.Common.{◌≡◌, refl}
use Rattle.rows.specs.Retained.{Retained}
use Rattle.tables.specs.Changing.{with_change}
use Rattle.tables.specs.declared.change.TableChange.{TableChange}
use Rattle.tables.specs.declared.change.TableChange.TheVariants.{Commit, Trim}
use Rattle.shown.specs.Standing.{Standing, after_step, HasRoom}
use Rattle.desk.specs.TableChanges.{changed, CanChange}
use Rattle.desk.specs.inside.Changing.{plain, step_of}

-- the history with it, by what it is alone
pub changed_alike : (r : Retained) (change : TableChange) → with_change r change ≡ changed r (plain change)
changed_alike r (Commit rev commit puts) = refl
changed_alike r (Trim floor first) = refl

-- and by its step
pub stepped_alike : (s : Standing) (change : TableChange) → (after_step s (step_of change)).kept ≡ with_change s.kept change
stepped_alike s (Commit rev commit puts) = refl
stepped_alike s (Trim floor first) = refl

-- a step that has room can be done to the history
pub can_change : (s : Standing) (change : TableChange) → HasRoom s (step_of change) → CanChange s.kept (plain change)
can_change s (Commit rev commit puts) room = room
can_change s (Trim floor first) room = (room.above, room.there)
