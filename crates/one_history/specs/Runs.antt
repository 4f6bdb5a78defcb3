-- What lies under the lock, as what its history makes of it.
use Rattle.std.specs.Prelude.{◌≡◌, List, [], ◌∷◌, ◌++◌}
use Rattle.one_history.specs.declared.entry.Entry.{Entry}
use Rattle.one_history.specs.History.{Hand, signed, entries_by}

module _ {S E : Type 0} (does : S → E → S → Type 0) where
  -- the entries take s to t, one after the other
  abbrev pub Ran : S → List (Entry E) → S → Type 0
  Ran s [] t = s ≡ t
  Ran s (e ∷ es) t = (m : S) × does s e.what m × Ran m es t

  -- they take one that it began with to t
  abbrev pub RanFrom : (S → Type 0) → List (Entry E) → S → Type 0
  RanFrom starts es t = (s : S) × starts s × Ran s es t

  -- A worker has done this, and what lay under the lock went from `before` to `after`. That was what all entries had left: those that
  -- the worker had seen, and then those that it had not. It has seen all of them now, and among them its own are those that it made,
  -- of which this is the last.
  pub record IsDone (starts : S → Type 0) (old : Hand E) (before : S) (what : E) (after : S) (new : Hand E) : Type 0 where
    pub by : new.by ≡ old.by
    pub between : List (Entry E)
    pub ran : RanFrom starts (old.seen ++ between) before
    pub done : does before what after
    pub seen : new.seen ≡ (old.seen ++ between) ++ signed old.by (what ∷ [])
    pub mine : new.mine ≡ old.mine ++ signed old.by (what ∷ [])
    pub own : entries_by new.by new.seen ≡ new.mine
