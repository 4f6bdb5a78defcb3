-- What a higher floor keeps.
use Rattle.std.specs.Prelude.{◌≡◌, ◌≤◌, ℕ}
use Rattle.rows.specs.Retained.{Retained, newest, snap_at, after_trim, commits_between}

-- From the higher floor on, each revision holds what it held, and its commits are the same.
pub record KeepsRetained (r : Retained) (floor : ℕ) : Type 0 where
  pub snaps : (rev : ℕ) → floor ≤ rev → snap_at (after_trim r floor) rev ≡ snap_at r rev
  pub commits : (from to : ℕ) → floor ≤ from → commits_between (after_trim r floor) from to ≡ commits_between r from to
  pub newest_there : newest (after_trim r floor) ≡ newest r
