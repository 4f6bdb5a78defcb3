-- What tables in memory hold: what stands at the floor, and the commits above it.
use Rattle.std.specs.Prelude.{◌≡◌, ℕ, length, take}
use Rattle.meaning.specs.History.{History}
use Rattle.rows.specs.Retained.{Retained}
use Rattle.tables.specs.Limits.{IsLoadable}

-- the rows say what stands at the floor
abbrev pub listed : ℕ → Retained → History → Retained
listed number rows commits = record { number = number; floor = rows.floor; base = rows.base; commits = commits }

-- the rows may have taken the first commits already, and the history can be loaded
pub record IsListed (number : ℕ) (rows : Retained) (commits : History) : Type 0 where
  pub first : rows.commits ≡ take (length rows.commits) commits
  pub loadable : IsLoadable (listed number rows commits)
