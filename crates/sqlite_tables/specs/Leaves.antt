-- What a creation makes, and what a crash leaves of it.
use Rattle.std.specs.Prelude.{◌≡◌, ℕ, IsTrue}
use Rattle.sqlite.specs.Store.{Ghosts}
use Rattle.sqlite.specs.Tree.{Trees}
use Rattle.sqlite.specs.Effect.{Database, IsDatabase}
use Rattle.sqlite.specs.State.{HasCleanDisk, State, Survives}
use Rattle.sqlite.specs.Held.{Held, state}
use Rattle.sqlite_tables.specs.Steps.{Founds, HasNone, HasNew}

-- there is no table, index or view
abbrev pub IsBlank : {S : Type 0} → Ghosts S → Held S → Type 0
IsBlank g c = HasNone (state g c).now

-- the connection is open and has committed the new store
pub record StandsNew (s : State) (number : ℕ) : Type 0 where
  pub is_open : IsTrue s.is_open
  pub committed : s.committed ≡ s.now
  pub new : HasNew number s.now
  pub sound : IsDatabase s.now

-- so it is as long as the device has returned what was written
abbrev pub HoldsNew : {S : Type 0} → Ghosts S → Held S → ℕ → Type 0
HoldsNew g c number = HasCleanDisk (state g c) → StandsNew (state g c) number

-- what a crash may leave of a creation, beside what it could leave before
pub record MayCreate (old : State) (number : ℕ) (trees : Trees) : Type 0 where
  pub db : Database
  pub is : trees ≡ db.trees
  pub was_open : IsTrue old.is_open
  pub made : Founds HasNone (HasNew number) old.now db

abbrev pub MayLeaveNew : {S : Type 0} → Ghosts S → Held S → Held S → ℕ → Type 0
MayLeaveNew g old new number = Survives (state g old) (state g new) (MayCreate (state g old) number)

-- a crash leaves what it left before, or over a blank database the whole new store
abbrev pub LeavesAtMostNew : {S : Type 0} → Ghosts S → Held S → Held S → ℕ → Type 0
LeavesAtMostNew g old new number = Survives (state g old) (state g new) (λ trees. IsBlank g old × MayCreate (state g old) number trees)
