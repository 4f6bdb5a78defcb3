-- Why a fixed text is not run.
use Rattle.std.proofs.Common.{◌≡◌, ◌≢◌, ◌≤◌, ◌⊎◌, arith, inl, inr, ℕ, List, [], codes, length, Ok, Err, Result, IsTrue, refl, sym, subst, ◌∙◌, true≢false}
use Rattle.sqlite_disk.specs.Disk.{MoreFaults}
use Rattle.sqlite_trees.specs.declared.error.StoreError.TheVariants.{OutOfMemory, Io, Corrupt, Full, Broken, Unstorable}
use Rattle.sqlite_value.specs.Order.{Row}
use Rattle.sqlite_schema.specs.declared.schema.Schema.{Schema}
use Rattle.sqlite_resolve.specs.declared.compiled.Compiled.{Compiled}
use Rattle.sqlite_resolve.specs.declared.error.CompileError.{CompileError}
use Rattle.sqlite_tied.specs.Compute.{everything}
use Rattle.sqlite.specs.Listing.{understood}
use Rattle.sqlite.specs.declared.error.Error.{Error}
use Rattle.sqlite.specs.declared.error.Error.TheVariants.{SqliteFailure}
use Rattle.sqlite.specs.declared.error.ErrorCode.TheVariants as code
use Rattle.sqlite.specs.State.{State, Fails, IsNotRun, IsNoStatement, IsUnchanged}
use Rattle.sqlite_tables.specs.Steps.{IsLeft}

-- the text is one statement, takes so many parameters and reads no time
abbrev pub Fits : ℕ → List ℕ → Result Compiled CompileError → Type 0
Fits count sql (Ok c) = (length sql ≤ c.tail) × (count ≡ length c.names) × (c.formats ≡ [])
Fits count sql (Err e) = ⊥

-- a failure that is no want of memory is the device's, or the connection was shut
pub failed_device : (old new : State) (too_big : Type 0) (e : Error) → e ≢ SqliteFailure code.OutOfMemory → IsTrue old.is_open → Fails old new too_big e → MoreFaults old.faults new.faults ⊎ too_big
failed_device old new too_big e other is (OutOfMemory, same, cause, back, tells) = absurd (other same)
failed_device old new too_big e other is (Io, same, cause, back, tells) = inl cause
failed_device old new too_big e other is (Corrupt, same, cause, back, tells) = inl cause
failed_device old new too_big e other is (Full, same, cause, back, tells) = inl cause
failed_device old new too_big e other is (Broken, same, cause, back, tells) = absurd (true≢false (sym is ∙ cause))
failed_device old new too_big e other is (Unstorable, same, cause, back, tells) = inr cause

no_statement : (old : State) (sql : List ℕ) (params : Row) (e : Error) → Fits (length params) sql (understood old.now.schema sql) → ¬ IsNoStatement old sql params e
no_statement old sql params e fits (inl h) = subst (Fits (length params) sql) h.1 fits
no_statement old sql params e fits (inr h) =
    let f = subst (Fits (length params) sql) h.1 fits in
    elim h.2 [
      | inl tail ↦ tail.0 f.0
      | inr (inl count) ↦ count.0 f.1
      | inr (inr time) ↦ time.0 f.2
    ]

-- a text that is a statement is not run for a failure alone
pub not_run : (old new : State) (sql : List ℕ) (params : Row) (e : Error) → Fits (length params) sql (understood old.now.schema sql) → IsNotRun old new sql params e → Fails old new ⊥ e
unfolding IsNotRun
not_run old new sql params e fits (inl h) = absurd (no_statement old sql params e fits h.0)
not_run old new sql params e fits (inr h) = h

abbrev pub one_text : List ℕ
one_text = codes "SELECT 1"

pub one_fits : (s : Schema) → Fits 0 one_text (understood s one_text)
unfolding understood everything
one_fits s = (omega arith, refl, refl)

pub probe_failed : (old new : State) (e : Error) → e ≢ SqliteFailure code.OutOfMemory → IsTrue old.is_open → IsNotRun old new one_text [] e → MoreFaults old.faults new.faults
probe_failed old new e other is h = elim (failed_device old new ⊥ e other is (not_run old new one_text [] e (one_fits old.now.schema) h)) [ inl more ↦ more | inr none ↦ absurd none ]

-- whatever the answer, what is held is what was held, or what was committed before
pub probe_same : (old new : State) → IsUnchanged old new → IsTrue new.is_open → IsLeft old new
probe_same old new same is = record { was_open = same.0.was_open; now = inl same.0.now_is; committed = same.0.committed_is }

pub probe_undone : (old new : State) (e : Error) → IsNotRun old new one_text [] e → IsTrue new.is_open → IsLeft old new
probe_undone old new e h is =
    let back = (not_run old new one_text [] e (one_fits old.now.schema) h).3 in
    record { was_open = back.was_open is; now = inr (back.undone is).0; committed = (back.undone is).1 }
