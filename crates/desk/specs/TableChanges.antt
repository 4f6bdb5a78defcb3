-- One change of the history that tables hold, without what spares them a look-up.
use Rattle.std.specs.Prelude.{ℕ, ◌<◌, ◌≤◌}
use Rattle.names.specs.declared.commit.Commit.{Commit}
use Rattle.meaning.specs.Config.{Configured}
use Rattle.rows.specs.Retained.{Retained, newest, with_commit, after_trim}
use Rattle.rows.specs.Follows.{IsNext}

-- a commit more, or the floor raised to a revision
pub data TableChange : Type 0 where
  Adds : Commit Configured → TableChange
  Raises : ℕ → TableChange

-- the history with the change
abbrev pub changed : Retained → TableChange → Retained
changed r (Adds commit) = with_commit r commit
changed r (Raises floor) = after_trim r floor

-- the commit can follow the history, or the revision is above its floor and there
abbrev pub CanChange : Retained → TableChange → Type 0
CanChange r (Adds commit) = IsNext r commit
CanChange r (Raises floor) = (r.floor < floor) × (floor ≤ newest r)
