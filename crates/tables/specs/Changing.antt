-- A change of the history that tables hold.
use Rattle.std.specs.Prelude.{ℕ}
use Rattle.rows.specs.Retained.{Retained, with_commit, after_trim}
use Rattle.tables.specs.declared.change.TableChange.{TableChange}
use Rattle.tables.specs.declared.change.TableChange.TheVariants.{Commit, Trim}
use Rattle.tables.specs.Storing.{IsNextAt, IsTrimTo}

-- the history can be changed so, and what the change says of it is so
abbrev pub IsChangeOf : Retained → TableChange → Type 0
IsChangeOf r (Commit rev commit puts) = IsNextAt r rev commit puts
IsChangeOf r (Trim floor first) = IsTrimTo r floor first

-- the history with the change
abbrev pub with_change : Retained → TableChange → Retained
with_change r (Commit rev commit puts) = with_commit r commit
with_change r (Trim floor first) = after_trim r floor

-- some history that the tables hold can be changed so
abbrev pub CanStore : (Retained → Type 0) → TableChange → Type 0
CanStore Holds change = (r : Retained) × Holds r × IsChangeOf r change
