-- Why a fixed write answers an error.
use Rattle.std.proofs.Common.{◌≡◌, ◌≢◌, ◌⊎◌, inl, inr, ℕ, false, List, length, Err, None, Some, Option, IsTrue, refl, sym, ap, subst, subst₂, ◌∙◌, append-nil}
use Rattle.sqlite_disk.specs.Disk.{MoreFaults}
use Rattle.sqlite_value.specs.Order.{Row}
use Rattle.sqlite_schema.specs.declared.schema.Schema.{Schema}
use Rattle.sqlite_schema.specs.declared.command.Command.{Command}
use Rattle.sqlite_schema.specs.declared.command.Command.TheVariants.{Select, Rows}
use Rattle.sqlite.specs.Calls.{IsWrite}
use Rattle.sqlite.specs.Clock.{timed}
use Rattle.sqlite.specs.Effect.{is_query}
use Rattle.sqlite.specs.Does.{Does}
use Rattle.sqlite.specs.Listing.{understood}
use Rattle.sqlite.specs.declared.error.Error.{Error}
use Rattle.sqlite.specs.declared.error.Error.TheVariants.{SqliteFailure}
use Rattle.sqlite.specs.declared.error.ErrorCode.TheVariants as code
use Rattle.sqlite.specs.State.{State, Executes, ExecutesIn, RunsCommand, IsMisplaced, is_pragma, shows_rows, text_of, mode_of}
use Rattle.sqlite.proofs.Callers.{IsPlain, command_of, statement_of}
use Rattle.sqlite_tables.proofs.Fixed.Causes.{Fits, failed_device, not_run}

no_query : (k : Command) → IsWrite k → (is_query k ≡ false) × (is_pragma k ≡ false)
no_query (Select q names) w = absurd w
no_query (Rows values width names) w = absurd w
no_query _ w = (refl, refl)

misplaced : (s : State) (k : Command) (e : Error) → IsWrite k → ¬ IsMisplaced s k e
misplaced s k e w (inl h) = elim h.1 [ inl b ↦ subst IsWrite b.0 w | inr r ↦ elim r.0 [ inl c ↦ subst IsWrite c w | inr d ↦ subst IsWrite d w ] ]
misplaced s k e w (inr h) = elim h.2 [ inl c ↦ subst IsWrite c w | inr d ↦ subst IsWrite d w ]

-- the meaning of the text refuses it, or finds a row too big
abbrev pub Refuses : State → Row → List ℕ → Command → Type 0
Refuses old params text command = (stop : Option Error) × Does old.step_limit (mode_of old) params old.now text None command (Err stop)

module _ (sql : List ℕ) (params : Row) (old new : State) (schema : Schema) (has : old.now.schema ≡ schema) (command : Command) (is : command_of (understood schema sql) ≡ command)
    (plain : IsPlain (understood schema sql)) (fits : Fits (length params) sql (understood schema sql)) (writes : IsWrite command) where
  pub fails_as : (e : Error) → e ≢ SqliteFailure code.OutOfMemory → IsTrue old.is_open → Executes sql params old new (Err e)
      → MoreFaults old.faults new.faults ⊎ Refuses old params (statement_of sql (understood schema sql)) command
  unfolding ExecutesIn
  fails_as e other open_now (inl h) =
      elim (failed_device old new _ e other open_now (not_run old new sql params e (subst (λ k. Fits (length params) sql (understood k sql)) (sym has) fits) h)) [ inl more ↦ inl more | inr none ↦ absurd none ]
  fails_as e other open_now (inr h) =
      let known = sym h.1.is ∙ ap (λ s. understood s sql) has in
      let bare = subst IsPlain (sym known) plain in
      let same = ap command_of known ∙ is in
      let quiet = no_query h.0.command (subst IsWrite (sym same) writes) in
      let shown : shows_rows false h.0 ≡ false = rw (quiet.0, quiet.1, bare.0) refl in
      let ran : RunsCommand old new sql h.0 (timed params h.0.formats h.1.now) (Err e) = rw shown at h.2 in
      let at = λ (stop : Option Error) (d : Does old.step_limit (mode_of old) (timed params h.0.formats h.1.now) old.now (text_of sql h.0) h.0.returning h.0.command (Err stop)).
      let r : Refuses old params (statement_of sql (understood schema sql)) command = (stop, subst₂ (λ k t. Does old.step_limit (mode_of old) params old.now t None k (Err stop)) same (ap (statement_of sql) known) (rw (bare.0, bare.1, append-nil params) at d)) in r in
      elim ran [
        | inl stays ↦ elim stays.0 [ inl lost ↦ absurd (misplaced old h.0.command e (subst IsWrite (sym same) writes) lost) | inr refused ↦ inr (at (Some e) refused.1) ]
        | inr failed ↦ elim (failed_device old new _ e other open_now failed) [ inl more ↦ inl more | inr big ↦ inr (at None big) ]
      ]
