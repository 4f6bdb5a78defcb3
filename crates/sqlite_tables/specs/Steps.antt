-- What the statements and the transactions make of the contents.
use Rattle.std.specs.Prelude.{◌≡◌, ◌⊎◌, ◌≤◌, ℕ, List, [], ◌∷◌, map, filter, not, fold, codes, IsTrue, Result, OnOk}
use Rattle.std.specs.Borrow.{MutBor}
use Rattle.sqlite.specs.Store.{Ghosts}
use Rattle.sqlite.specs.State.{HasCleanDisk, KeepsCommit, State, Survives}
use Rattle.sqlite.specs.Held.{Held, state}
use Rattle.sqlite.specs.declared.error.Error.{Error}
use Rattle.sqlite.specs.Effect.{Database, IsDatabase}
use Rattle.sqlite.specs.Tree.{Trees}
use Rattle.sqlite_tables.specs.declared.stored.StoredEvent.{StoredEvent}
use Rattle.sqlite_tables.specs.declared.stored.SpanChange.{SpanChange}
use Rattle.sqlite_tables.specs.declared.stored.SpanChange.TheVariants.{Begins, BeginsAnew, Ends}
use Rattle.sqlite_tables.specs.Format.{schema, no_schema, one_schema, two_schema}
use Rattle.sqlite_tables.specs.Tables.{Span, ConfigRow, Contents, Holds, config_at, after_close, with_value, is_past, is_below}
use Rattle.sqlite_tables.specs.Numbered.{AreNumberedTo}
use Rattle.sqlite_tables.specs.Stored.{span_between}

-- ---- the contents

abbrev pub with_span : Span → Contents → Contents
with_span s h = record h { spans = s ∷ h.spans }

abbrev pub with_closed : Span → ℕ → Contents → Contents
with_closed tuple rev h = record h { spans = map (after_close tuple rev) h.spans }

abbrev pub with_config : ConfigRow → Contents → Contents
with_config c h = record h { configs = c ∷ h.configs }

abbrev pub with_entry : List ℕ → ℕ → Contents → Contents
with_entry key value h = record h { entries = map (with_value key value) h.entries }

abbrev pub without_past : ℕ → Contents → Contents
without_past floor h = record h { spans = filter (λ s. not (is_past floor s)) h.spans }

abbrev pub without_below : ℕ → Contents → Contents
without_below rev h = record h { configs = filter (λ c. not (is_below rev c)) h.configs }

-- what the change makes of them, where its tuple's span would begin so at the revision
abbrev pub after_change : SpanChange → Span → ℕ → Contents → Contents
after_change Begins s rev h = with_span s h
after_change BeginsAnew s rev h = with_span s (with_closed s rev h)
after_change Ends s rev h = with_closed s rev h

abbrev pub after_event : ℕ → StoredEvent → Contents → Contents
after_event rev e h = after_change e.change (span_between e.tuple rev 0) rev h

abbrev pub after_events : ℕ → List StoredEvent → Contents → Contents
after_events rev events h = fold (λ x e. after_event rev e x) h events

-- ---- the transactions

-- a store with this number and no commit
abbrev pub new_store : ℕ → Contents
new_store number = record {
  spans = [];
  configs = [];
  entries = record { key = codes "floor"; value = 0 } ∷ record { key = codes "format"; value = 1 } ∷ record { key = codes "newest"; value = 0 } ∷ record { key = codes "store"; value = number } ∷ [];
}

abbrev pub after_write : ℕ → List StoredEvent → Contents → Contents
after_write rev events h = with_entry (codes "newest") rev (after_events rev events h)

abbrev pub after_configure : ℕ → List ℕ → Contents → Contents
after_configure rev text h = with_entry (codes "newest") rev (with_config (config_at rev text) h)

-- what no revision from the floor on looks at is gone; `first` is the revision of the last configuration at or below it
abbrev pub after_drop : ℕ → ℕ → Contents → Contents
after_drop floor first h = without_below first (without_past floor h)

abbrev pub after_trim : ℕ → ℕ → Contents → Contents
after_trim floor first h = with_entry (codes "floor") floor (after_drop floor first h)

-- what the tables held has become what `f` makes of it
abbrev pub Becomes : (Contents → Contents) → Database → Database → Type 0
Becomes f old new = (h : Contents) → Holds old h → Holds new (f h)

-- no rowid is above those that were there and the last that was given
abbrev pub Numbers : ℕ → Database → Database → Type 0
Numbers last old new = (h : Contents) → Holds old h → (n : ℕ) → last ≤ n → AreNumberedTo n old.trees → AreNumberedTo n new.trees

-- both, and it is a database if it was one
pub record Alters (f : Contents → Contents) (last : ℕ) (old new : Database) : Type 0 where
  pub holds : Becomes f old new
  pub numbered : Numbers last old new
  pub sound : (h : Contents) → Holds old h → IsDatabase old → IsDatabase new

-- ---- which tables are made

abbrev pub HasNone : Database → Type 0
HasNone db = db.schema ≡ no_schema

pub record HasRow (db : Database) : Type 0 where
  pub schema_is : db.schema ≡ one_schema
  pub row : db.trees 0 ≡ []

pub record HasConfig (db : Database) : Type 0 where
  pub schema_is : db.schema ≡ two_schema
  pub row : db.trees 0 ≡ []
  pub config : db.trees 2 ≡ []

pub record HasTables (db : Database) : Type 0 where
  pub schema_is : db.schema ≡ schema
  pub row : db.trees 0 ≡ []
  pub config : db.trees 2 ≡ []
  pub state : db.trees 3 ≡ []

-- those of the new store, with their first values
pub record HasNew (number : ℕ) (db : Database) : Type 0 where
  pub holds : Holds db (new_store number)
  pub numbered : AreNumberedTo 0 db.trees

-- from tables of the one kind to a database with tables of the other
abbrev pub Founds : (Database → Type 0) → (Database → Type 0) → Database → Database → Type 0
Founds P Q old new = P old → Q new × IsDatabase new

-- ---- one statement in a transaction

-- the transaction goes on, and its database has become so
pub record Turns (R : Database → Database → Type 0) (old new : State) : Type 0 where
  pub goes_on : IsTrue old.in_transaction → IsTrue new.in_transaction
  pub does : R old.now new.now

-- where it succeeded, the tables hold what `f` makes of what they held, under rowids up to the last
abbrev pub Changes : {S A : Type 0} → Ghosts S → MutBor (Held S) → MutBor (Held S) → Result A Error → (Contents → Contents) → ℕ → Type 0
Changes g old new result f last = HasCleanDisk (state g new.now) → OnOk result (Turns (Alters f last) (state g old.now) (state g new.now))

-- where it succeeded, there are tables of the second kind where there were those of the first
abbrev pub Makes : {S A : Type 0} → Ghosts S → MutBor (Held S) → MutBor (Held S) → Result A Error → (Database → Type 0) → (Database → Type 0) → Type 0
Makes g old new result P Q = HasCleanDisk (state g new.now) → OnOk result (Turns (Founds P Q) (state g old.now) (state g new.now))

-- where it succeeded, the connection was open
abbrev pub RunsOpen : {S A : Type 0} → Ghosts S → MutBor (Held S) → MutBor (Held S) → Result A Error → Type 0
RunsOpen g old new result = HasCleanDisk (state g new.now) → OnOk result (IsTrue (state g old.now).is_open)

-- it commits nothing, and a crash leaves nothing of it
pub record IsQuiet {S : Type 0} (g : Ghosts S) (old new : MutBor (Held S)) : Type 0 where
  pub keeps_commit : HasCleanDisk (state g new.now) → KeepsCommit (state g old.now) (state g new.now)
  pub survives : Survives (state g old.now) (state g new.now) (λ _. ⊥)

-- ---- one transaction

-- the change is made and committed
pub record HasStored (f : Contents → Contents) (last : ℕ) (old new : State) : Type 0 where
  pub was_open : IsTrue old.is_open
  pub is_open : IsTrue new.is_open
  pub committed : new.committed ≡ new.now
  pub made : Alters f last old.now new.now

abbrev pub Stores : {S : Type 0} → Ghosts S → Held S → Held S → (Contents → Contents) → ℕ → Type 0
Stores g old new f last = HasCleanDisk (state g new) → HasStored f last (state g old) (state g new)

-- nothing is: what is held is what was committed before
pub record IsUndone (old new : State) : Type 0 where
  pub was_open : IsTrue old.is_open
  pub now : new.now ≡ old.committed
  pub committed : new.committed ≡ old.committed

-- so it is as long as the connection is open
abbrev pub Undoes : {S : Type 0} → Ghosts S → Held S → Held S → Type 0
Undoes g old new = HasCleanDisk (state g new) → IsTrue (state g new).is_open → IsUndone (state g old) (state g new)

-- what is held is what was held, or what was committed before
pub record IsLeft (old new : State) : Type 0 where
  pub was_open : IsTrue old.is_open
  pub now : (new.now ≡ old.now) ⊎ (new.now ≡ old.committed)
  pub committed : new.committed ≡ old.committed

-- so it is as long as the connection is open
abbrev pub Stays : {S : Type 0} → Ghosts S → Held S → Held S → Type 0
Stays g old new = HasCleanDisk (state g new) → IsTrue (state g new).is_open → IsLeft (state g old) (state g new)

-- what a crash may leave beside what it could leave before
pub record MayStore (old : State) (f : Contents → Contents) (last : ℕ) (trees : Trees) : Type 0 where
  pub db : Database
  pub is : trees ≡ db.trees
  pub was_open : IsTrue old.is_open
  pub made : Alters f last old.now db

-- a crash leaves what it left before, or the whole change
abbrev pub LeavesAtMost : {S : Type 0} → Ghosts S → Held S → Held S → (Contents → Contents) → ℕ → Type 0
LeavesAtMost g old new f last = Survives (state g old) (state g new) (MayStore (state g old) f last)
