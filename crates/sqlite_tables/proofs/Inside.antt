-- A statement inside a transaction, from what it does to the contents.
use Rattle.std.proofs.Common.{◌≡◌, ◌⊎◌, ◌≤◌, ◌+◌, inl, inr, ℕ, None, List, [], length, Ok, Err, Result, OnOk, IsTrue, Bool, true, false, refl, sym, subst, ◌∙◌, arith}
use Rattle.std.specs.Borrow.{MutBor}
use Rattle.sqlite.specs.Order.{Row}
use Rattle.sqlite.specs.declared.error.Error.{Error}
use Rattle.sqlite.specs.Command.TheVariants.{Insert, Update, Delete, CreateTable}
use Rattle.sqlite.specs.Source.TheVariants.{Values}
use Rattle.sqlite.specs.State.{State, Executes, ExecutesInside, HasCleanDisk, KeepsCommit, IsUnchanged, IsRolledBack, Survives}
use Rattle.sqlite.specs.declared.error.ErrorCode.TheVariants.{TransactionState}
use Rattle.sqlite.specs.declared.error.Error.TheVariants.{SqliteFailure}
use Rattle.sqlite.specs.Store.{Ghosts}
use Rattle.sqlite.specs.Tree.{Trees}
use Rattle.sqlite.specs.Effect.{Database, IsDatabase}
use Rattle.sqlite.specs.Held.{Held, state}
use Rattle.sqlite.specs.Listing.{understood}
use Rattle.sqlite.proofs.Callers.{runs_as, statement_of}
use Rattle.sqlite.proofs.StateLemmas.{survives_then}
use Rattle.sqlite_tables.specs.Format.{schema}
use Rattle.sqlite_tables.specs.Tables.{Span, ConfigRow, Contents, Holds}
use Rattle.sqlite.specs.State.{Writes}
use Rattle.sqlite_tables.specs.Format.{no_schema, one_schema, two_schema, row_text, config_text, state_text}
use Rattle.sqlite_tables.proofs.CreateLemmas.{makes_row, makes_config, makes_state, init_params, inits}
use Rattle.sqlite_tables.specs.Steps.{Alters, IsQuiet, Turns, with_span, with_closed, with_config, with_entry, without_past, without_below, HasNone, HasRow, HasConfig, HasTables, HasNew}
use Rattle.sqlite_tables.specs.declared.stored.StoredEvent.{StoredEvent}
use Rattle.sqlite_tables.specs.Caused.{spans_of}
use Rattle.sqlite_tables.specs.inside.Together.{all_values, with_spans}
use Rattle.sqlite_tables.proofs.Close.{close_params, closes}
use Rattle.sqlite_tables.proofs.Set.{set_params, sets}
use Rattle.sqlite_tables.proofs.InsertConfig.{config_params, inserts_config}
use Rattle.sqlite_tables.proofs.Dropping.{past_params, drops_spans, drops_configs}
use Rattle.sqlite_tables.proofs.Texts.{config_insert_text, config_terms, config_insert_is, config_insert_plain, drop_text, drop_query, drop_is, drop_plain, drop_configs_text, drop_configs_query, drop_configs_is, drop_configs_plain, make_row_is, make_row_plain, make_config_is, make_config_plain, make_state_is, make_state_plain, init_text, init_terms, init_is, init_plain, alone, close_text, close_query, close_is, close_plain, set_text, set_query, set_is, set_plain, insert_text, insert_terms, insert_is, insert_plain}
use Rattle.sqlite_tables.proofs.Insert.{insert_params, open_span, inserts}
use Rattle.sqlite_tables.proofs.Together.{AddsRows, inserts_all, row_terms}

-- ---- one statement

keeps_if : (old new : State) → IsUnchanged old new ⊎ IsRolledBack old new → KeepsCommit old new
keeps_if old new (inl same) = record { was_open = λ _. same.0.was_open; committed = λ _. same.0.committed_is }
keeps_if old new (inr back) = record { was_open = back.was_open; committed = λ is. (back.undone is).1 }

keeps : (sql : List ℕ) (params : Row) (old new : State) (r : Result ℕ Error) → ExecutesInside 0 sql params old new r → KeepsCommit old new
keeps sql params old new (Ok count) h = record { was_open = λ _. h.1.was_open; committed = λ _. h.1.committed_is }
keeps sql params old new (Err e) (inl h) = keeps_if old new h.1
keeps sql params old new (Err e) (inr h) = keeps_if old new (inl h.2)

turns : (sql : List ℕ) (params : Row) (old new : State) (R : Database → Database → Type 0) → ((count : ℕ) → Executes sql params old new (Ok count) → R old.now new.now) → (r : Result ℕ Error) → ExecutesInside 0 sql params old new r
    → OnOk r (Turns R old new)
turns sql params old new R does (Err e) h = tt
turns sql params old new R does (Ok count) h = record { goes_on = λ _. h.1.mode; does = does count h.0 }

ran_open : (sql : List ℕ) (params : Row) (old new : State) (r : Result ℕ Error) → ExecutesInside 0 sql params old new r → OnOk r (IsTrue old.is_open)
ran_open sql params old new (Err e) h = tt
ran_open sql params old new (Ok count) h = h.1.was_open

-- a transaction that has ended answers an error and does nothing
abbrev pub Ended : {S : Type 0} → Ghosts S → Held S → Held S → Result ℕ Error → Type 0
Ended g old new r = (state g old).in_transaction ≡ false → (r ≡ Err (SqliteFailure TransactionState)) × (new ≡ old)

module _ {S : Type 0} (g : Ghosts S) (old new : MutBor (Held S)) (r : Result ℕ Error) (ended : Ended g old.now new.now r) (sql : List ℕ) (params : Row)
    (runs : HasCleanDisk (state g new.now) → IsTrue (state g old.now).in_transaction → ExecutesInside 0 sql params (state g old.now) (state g new.now) r) where
  -- what it did, where it succeeded
  pub does_inside : (R : Database → Database → Type 0) → ((count : ℕ) → Executes sql params (state g old.now) (state g new.now) (Ok count) → R (state g old.now).now (state g new.now).now)
      → HasCleanDisk (state g new.now) → OnOk r (Turns R (state g old.now) (state g new.now))
  does_inside R does clean = by_mode (state g old.now).in_transaction refl
    where
      by_mode : (b : Bool) → (state g old.now).in_transaction ≡ b → OnOk r (Turns R (state g old.now) (state g new.now))
      by_mode true e = turns sql params (state g old.now) (state g new.now) R does r (runs clean e)
      by_mode false e = subst (λ x. OnOk x (Turns R (state g old.now) (state g new.now))) (sym (ended e).0) tt

  -- it was open, where it succeeded
  pub open_inside : HasCleanDisk (state g new.now) → OnOk r (IsTrue (state g old.now).is_open)
  open_inside clean = by_mode (state g old.now).in_transaction refl
    where
      by_mode : (b : Bool) → (state g old.now).in_transaction ≡ b → OnOk r (IsTrue (state g old.now).is_open)
      by_mode true e = ran_open sql params (state g old.now) (state g new.now) r (runs clean e)
      by_mode false e = subst (λ x. OnOk x (IsTrue (state g old.now).is_open)) (sym (ended e).0) tt

  pub quiet_inside : Survives (state g old.now) (state g new.now) (λ _. ⊥) → IsQuiet g old new
  quiet_inside survives = record { keeps_commit = λ clean. by_mode clean (state g old.now).in_transaction refl; survives = survives }
    where
      by_mode : HasCleanDisk (state g new.now) → (b : Bool) → (state g old.now).in_transaction ≡ b → KeepsCommit (state g old.now) (state g new.now)
      by_mode clean true e = keeps sql params (state g old.now) (state g new.now) r (runs clean e)
      by_mode clean false e = subst (λ h. KeepsCommit (state g old.now) (state g h)) (sym (ended e).1) (record { was_open = λ is. is; committed = λ is. refl })

-- ---- one after another

pub quiet_then : {S : Type 0} (g : Ghosts S) (a b c : MutBor (Held S)) → IsQuiet g a b → IsQuiet g b c → IsQuiet g a c
quiet_then g a b c one two = record {
  keeps_commit = λ clean.
      let first = one.keeps_commit (omega (arith, two.survives.clean, clean)) in
      let second = two.keeps_commit clean in
      record { was_open = λ is. first.was_open (second.was_open is); committed = λ is. second.committed is ∙ first.committed (second.was_open is) };
  survives = survives_then (state g a.now) (state g b.now) (state g c.now) _ _ (λ _. ⊥) (λ _ db none. none) (λ _ db none. none) one.survives two.survives;
}

-- where the last of them ran, the connection was open at the first
pub opened_then : {S : Type 0} (g : Ghosts S) (a b c : MutBor (Held S)) → IsQuiet g a b → IsQuiet g b c → (HasCleanDisk (state g c.now) → IsTrue (state g b.now).is_open) → HasCleanDisk (state g c.now) → IsTrue (state g a.now).is_open
opened_then g a b c one two was clean = (one.keeps_commit (omega (arith, two.survives.clean, clean))).was_open (was clean)

-- nothing has happened
pub survives_same : (s : State) (P : Trees → Type 0) → Survives s s P
survives_same s P = record { clean = omega arith; shield = λ x. x; counts = omega arith; limit = refl; closes = λ _ is. inl is; crash = λ _ db left. inl left }

pub quiet_none : {S : Type 0} (g : Ghosts S) (a : MutBor (Held S)) → IsQuiet g a a
quiet_none g a = record { keeps_commit = λ clean. record { was_open = λ is. is; committed = λ is. refl }; survives = survives_same (state g a.now) (λ _. ⊥) }

-- the first was calm if the second is
pub calm : {S : Type 0} (g : Ghosts S) (a b : MutBor (Held S)) → IsQuiet g a b → HasCleanDisk (state g b.now) → HasCleanDisk (state g a.now)
calm g a b quiet clean = omega (arith, quiet.survives.clean, clean)

-- ---- what each does

module _ (old new : State) (count : ℕ) where
  pub insert_does : (id : ℕ) (s : Span) → Executes insert_text (insert_params id s) old new (Ok count) → Alters (with_span (open_span s)) id old.now new.now
  insert_does id s ran =
      let wrote = λ (h : Contents) (holds : Holds old.now h). runs_as insert_text (insert_params id s) old new schema holds.schema_is (Insert 0 (Values insert_terms 7)) insert_is insert_plain count ran in
      let does = λ (h : Contents) (holds : Holds old.now h). inserts old new id s count h holds (wrote h holds) in
      record { holds = λ h holds. (does h holds).0; numbered = λ h holds. (does h holds).1; sound = λ h holds _. (wrote h holds).sound }

  pub insert_all_does : (rev first : ℕ) (events : List StoredEvent) (text : List ℕ) → AddsRows (length events) text → (last : ℕ) → first + length events ≤ last + 1 → Executes text (all_values rev first events) old new (Ok count)
      → Alters (with_spans (spans_of rev events)) last old.now new.now
  insert_all_does rev first events text adds last up ran =
      let params = all_values rev first events in
      let wrote = λ (h : Contents) (holds : Holds old.now h). runs_as text params old new schema holds.schema_is (Insert 0 (Values (row_terms 1 (length events)) 7)) adds.is adds.plain count ran in
      let does = λ (h : Contents) (holds : Holds old.now h). inserts_all old new rev first events (statement_of text (understood schema text)) count h holds (wrote h holds) in
      record { holds = λ h holds. (does h holds).0; numbered = λ h holds n low. (does h holds).1 n (omega (arith, up, low)); sound = λ h holds _. (wrote h holds).sound }

  pub close_does : (s : Span) (rev : ℕ) → Executes close_text (close_params s rev) old new (Ok count) → Alters (with_closed s rev) 0 old.now new.now
  close_does s rev ran =
      let wrote = λ (h : Contents) (holds : Holds old.now h). runs_as close_text (close_params s rev) old new schema holds.schema_is (Update 0 (alone close_query)) close_is close_plain count ran in
      let does = λ (h : Contents) (holds : Holds old.now h). closes old new s rev count h holds (wrote h holds) in
      record { holds = λ h holds. (does h holds).0; numbered = λ h holds. (does h holds).1; sound = λ h holds _. (wrote h holds).sound }

  pub set_does : (key : List ℕ) (value : ℕ) → Executes set_text (set_params key value) old new (Ok count) → Alters (with_entry key value) 0 old.now new.now
  set_does key value ran =
      let wrote = λ (h : Contents) (holds : Holds old.now h). runs_as set_text (set_params key value) old new schema holds.schema_is (Update 2 (alone set_query)) set_is set_plain count ran in
      let does = λ (h : Contents) (holds : Holds old.now h). sets old new key value count h holds (wrote h holds) in
      record { holds = λ h holds. (does h holds).0; numbered = λ h holds. (does h holds).1; sound = λ h holds _. (wrote h holds).sound }

  pub config_does : (c : ConfigRow) → Executes config_insert_text (config_params c) old new (Ok count) → Alters (with_config c) 0 old.now new.now
  config_does c ran =
      let wrote = λ (h : Contents) (holds : Holds old.now h). runs_as config_insert_text (config_params c) old new schema holds.schema_is (Insert 1 (Values config_terms 3)) config_insert_is config_insert_plain count ran in
      let does = λ (h : Contents) (holds : Holds old.now h). inserts_config old new c count h holds (wrote h holds) in
      record { holds = λ h holds. (does h holds).0; numbered = λ h holds. (does h holds).1; sound = λ h holds _. (wrote h holds).sound }

  pub drop_spans_does : (floor : ℕ) → Executes drop_text (past_params floor) old new (Ok count) → Alters (without_past floor) 0 old.now new.now
  drop_spans_does floor ran =
      let wrote = λ (h : Contents) (holds : Holds old.now h). runs_as drop_text (past_params floor) old new schema holds.schema_is (Delete 0 (alone drop_query)) drop_is drop_plain count ran in
      let does = λ (h : Contents) (holds : Holds old.now h). drops_spans old new floor count h holds (wrote h holds) in
      record { holds = λ h holds. (does h holds).0; numbered = λ h holds. (does h holds).1; sound = λ h holds _. (wrote h holds).sound }

  pub drop_configs_does : (rev : ℕ) → Executes drop_configs_text (past_params rev) old new (Ok count) → Alters (without_below rev) 0 old.now new.now
  drop_configs_does rev ran =
      let wrote = λ (h : Contents) (holds : Holds old.now h). runs_as drop_configs_text (past_params rev) old new schema holds.schema_is (Delete 1 (alone drop_configs_query)) drop_configs_is drop_configs_plain count ran in
      let does = λ (h : Contents) (holds : Holds old.now h). drops_configs old new rev count h holds (wrote h holds) in
      record { holds = λ h holds. (does h holds).0; numbered = λ h holds. (does h holds).1; sound = λ h holds _. (wrote h holds).sound }

  -- ---- creation

  pub make_row_does : Executes row_text [] old new (Ok count) → HasNone old.now → HasRow new.now × IsDatabase new.now
  make_row_does ran is =
      let wrote = runs_as row_text [] old new no_schema is CreateTable make_row_is.0 make_row_plain count ran in
      (makes_row old new count is (subst (λ t. Writes old new None CreateTable t [] count) make_row_is.1 wrote), wrote.sound)

  pub make_config_does : Executes config_text [] old new (Ok count) → HasRow old.now → HasConfig new.now × IsDatabase new.now
  make_config_does ran is =
      let wrote = runs_as config_text [] old new one_schema is.schema_is CreateTable make_config_is.0 make_config_plain count ran in
      (makes_config old new count is (subst (λ t. Writes old new None CreateTable t [] count) make_config_is.1 wrote), wrote.sound)

  pub make_state_does : Executes state_text [] old new (Ok count) → HasConfig old.now → HasTables new.now × IsDatabase new.now
  make_state_does ran is =
      let wrote = runs_as state_text [] old new two_schema is.schema_is CreateTable make_state_is.0 make_state_plain count ran in
      (makes_state old new count is (subst (λ t. Writes old new None CreateTable t [] count) make_state_is.1 wrote), wrote.sound)

  pub init_does : (number : ℕ) → Executes init_text (init_params number) old new (Ok count) → HasTables old.now → HasNew number new.now × IsDatabase new.now
  init_does number ran is =
      let wrote = runs_as init_text (init_params number) old new schema is.schema_is (Insert 2 (Values init_terms 3)) init_is init_plain count ran in
      (inits old new number count is wrote, wrote.sound)
