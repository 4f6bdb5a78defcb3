-- Why a statement inside a transaction is refused.
use Rattle.std.proofs.Common.{◌≡◌, ◌≢◌, inl, inr, ℕ, List, Ok, Err, Result, IfErr, IsTrue, sym, ap, subst, ◌∙◌}
use Rattle.std.specs.Borrow.{MutBor}
use Rattle.sqlite_disk.specs.Disk.{MoreFaults}
use Rattle.sqlite.specs.Order.{Row}
use Rattle.sqlite.specs.Store.{Ghosts}
use Rattle.sqlite.specs.Schema.{Schema}
use Rattle.sqlite.specs.Effect.{Database}
use Rattle.sqlite.specs.Calls.{IsWrite}
use Rattle.sqlite_schema.specs.declared.command.Command.{Command}
use Rattle.sqlite.specs.Listing.{understood}
use Rattle.sqlite.specs.State.{State, EndsScope, Executes, ExecutesInside, HasCleanDisk}
use Rattle.sqlite.specs.Held.{Held, state}
use Rattle.sqlite.specs.declared.error.Error.{Error}
use Rattle.sqlite.specs.declared.error.Error.TheVariants.{SqliteFailure}
use Rattle.sqlite.specs.declared.error.ErrorCode.TheVariants.{OutOfMemory}
use Rattle.sqlite.proofs.Callers.{command_of}
use Rattle.sqlite_tables.specs.Caused.{IsCausedInside, IsReady}

-- no write ends the transaction
pub stays_inside : (sql : List ℕ) (params : Row) (old : State) (schema : Schema) → old.now.schema ≡ schema → (command : Command) → command_of (understood schema sql) ≡ command → IsWrite command → ¬ EndsScope 0 sql params old
unfolding EndsScope
stays_inside sql params old schema has command is writes h =
    let known = sym h.1.is ∙ ap (λ s. understood s sql) has in
    let same = ap command_of known ∙ is in
    let write = subst IsWrite (sym same) writes in
    elim h.2 [
      | inl ends ↦ elim ends [ inl commit ↦ subst IsWrite commit write | inr back ↦ subst IsWrite back write ]
      | inr marks ↦ elim marks.1 [ inl release ↦ subst IsWrite release write | inr back ↦ subst IsWrite back write ]
    ]

module _ {S : Type 0} (g : Ghosts S) (old new : MutBor (Held S)) (r : Result ℕ Error) (sql : List ℕ) (params : Row)
    (runs : HasCleanDisk (state g new.now) → IsTrue (state g old.now).in_transaction → ExecutesInside 0 sql params (state g old.now) (state g new.now) r) (Fits : Database → Type 0)
    (why : (e : Error) → e ≢ SqliteFailure OutOfMemory → IsReady (state g old.now) → Fits (state g old.now).now → Executes sql params (state g old.now) (state g new.now) (Err e) → MoreFaults (state g old.now).faults (state g new.now).faults)
    (inside : Fits (state g old.now).now → ¬ EndsScope 0 sql params (state g old.now)) where
  by_result : (x : Result ℕ Error) → ExecutesInside 0 sql params (state g old.now) (state g new.now) x
      → IfErr x (λ e. e ≢ SqliteFailure OutOfMemory → IsReady (state g old.now) → Fits (state g old.now).now → MoreFaults (state g old.now).faults (state g new.now).faults)
  by_result (Ok count) h = tt
  by_result (Err e) (inl h) = λ other ready fits. why e other ready fits h.0
  by_result (Err e) (inr h) = λ other ready fits. absurd (inside fits h.0)

  pub caused_inside : IsCausedInside g old new r Fits
  caused_inside is clean = by_result r (runs clean is)
