-- Why a query of a whole table answers an error.
use Rattle.std.proofs.Common.{◌≡◌, ◌≢◌, inl, inr, ℕ, true, false, List, [], codes, None, Option, IsSome, IsTrue, refl, sym, ap, subst, subst₂, ◌∙◌, arith, true≢false}
use Rattle.sqlite_disk.specs.Disk.{MoreFaults}
use Rattle.sqlite_value.specs.declared.keys.Key.{Key}
use Rattle.sqlite_typing.specs.Types.{accepts_program}
use Rattle.sqlite_sql.specs.Program.{QueryOverflows, overlay}
use Rattle.sqlite.specs.Order.{Row}
use Rattle.sqlite.specs.Tree.{Trees}
use Rattle.sqlite.specs.Term.{Term}
use Rattle.sqlite.specs.Query.{Query}
use Rattle.sqlite.specs.Command.TheVariants.{Select}
use Rattle.sqlite.specs.Effect.{Database, RefusesToRead, RefusesQuery}
use Rattle.sqlite.specs.Listing.{understood}
use Rattle.sqlite.specs.declared.error.Error.{Error}
use Rattle.sqlite.specs.declared.error.Error.TheVariants.{SqliteFailure}
use Rattle.sqlite.specs.declared.error.ErrorCode.TheVariants as code
use Rattle.sqlite.specs.State.{State, FailsToQuery, FailsToShow}
use Rattle.sqlite.specs.Clock.{timed}
use Rattle.sqlite_tied.specs.Compute.{everything}
use Rattle.sqlite.proofs.Callers.{IsPlain, command_of}
use Rattle.sqlite_tables.specs.Format.{schema}
use Rattle.sqlite_tables.specs.Tables.{AsksRowids}
use Rattle.sqlite_tables.proofs.Texts.{scan, alone, rows_text, rows_query, rows_is, rows_plain, configs_text, configs_query, configs_is, configs_plain, read_text, entries_query, entries_is, entries_plain, ids_query, ReadsIds, reads_ids}
use Rattle.sqlite_tables.proofs.Fixed.Causes.{Fits, failed_device, not_run}

-- nothing is summed up
no_overflow : (t : ℕ) (test project : List Term) (order : List (Term × Key)) (db : Trees) (params : Row) → ¬ QueryOverflows (scan t test project order) db params
no_overflow t test project order db params (inl none) = none
no_overflow t test project order db params (inr some) = some.4

-- the types of a query of a whole table are right, and no step limit is set
never_refused : (limit : Option ℕ) → limit ≡ None → (db : Database) → db.schema ≡ schema → (t : ℕ) (project : List Term) (order : List (Term × Key))
    → accepts_program schema [] (scan t [] project order) [] ≡ true → (e : Error) → ¬ RefusesQuery limit db (alone (scan t [] project order)) [] e
never_refused limit none db has t project order typed e (inl untyped) =
    true≢false (sym (ap (λ s. accepts_program s [] (scan t [] project order) []) has ∙ typed) ∙ untyped.1)
never_refused limit none db has t project order typed e (inr (inl over)) = no_overflow t [] project order (overlay db.trees []) [] over.1
never_refused limit none db has t project order typed e (inr (inr late)) = true≢false (sym (subst IsSome none late.1))

module _ (sql : List ℕ) (t : ℕ) (project : List Term) (order : List (Term × Key)) (names : List (List ℕ))
    (is : command_of (understood schema sql) ≡ Select (alone (scan t [] project order)) names) (plain : IsPlain (understood schema sql)) (unlisted : Rattle.sqlite.specs.Listing.reads_listing schema sql ≡ false)
    (fits : Fits 0 sql (understood schema sql)) (typed : accepts_program schema [] (scan t [] project order) [] ≡ true) where
  -- such a query is refused for memory or by the device
  pub query_fails : (old new : State) → old.now.schema ≡ schema → old.step_limit ≡ None → (e : Error) → e ≢ SqliteFailure code.OutOfMemory → IsTrue old.is_open → FailsToQuery sql [] old new e
      → MoreFaults old.faults new.faults
  unfolding FailsToQuery
  query_fails old new has none e other open_now (inl h) =
      elim (failed_device old new _ e other open_now (not_run old new sql [] e (subst (λ k. Fits 0 sql (understood k sql)) (sym has) fits) h)) [ inl more ↦ more | inr big ↦ absurd big ]
  query_fails old new has none e other open_now (inr h) =
      let known = sym h.1.is ∙ ap (λ s. understood s sql) has in
      let bare = subst IsPlain (sym known) plain in
      let fails = subst (FailsToShow old new sql h.0 (timed [] h.0.formats h.1.now) e) bare.0 h.2 in
      let db : fails.0 ≡ old.now = subst (λ b. Rattle.sqlite.specs.Listing.IsSourceOf b old.now fails.0) (ap (λ s. Rattle.sqlite.specs.Listing.reads_listing s sql) has ∙ unlisted) fails.1 in
      let full : timed [] h.0.formats h.1.now ≡ [] = rw bare.1 refl in
      let refused : RefusesToRead old.step_limit h.0.command old.now [] e = subst₂ (λ d p. RefusesToRead old.step_limit h.0.command d p e) db full fails.2 in
      absurd (never_refused old.step_limit none old.now has t project order typed e (subst (λ k. RefusesToRead old.step_limit k old.now [] e) (ap command_of known ∙ is) refused))

-- ---- the texts

rows_fits : Fits 0 rows_text (understood schema rows_text)
unfolding understood everything
rows_fits = (omega arith, refl, refl)

configs_fits : Fits 0 configs_text (understood schema configs_text)
unfolding understood everything
configs_fits = (omega arith, refl, refl)

entries_fits : Fits 0 read_text (understood schema read_text)
unfolding understood everything
entries_fits = (omega arith, refl, refl)

rows_typed : accepts_program schema [] rows_query [] ≡ true
rows_typed = refl

configs_typed : accepts_program schema [] configs_query [] ≡ true
configs_typed = refl

entries_typed : accepts_program schema [] entries_query [] ≡ true
entries_typed = refl

pub record FitsIds (sql : List ℕ) (tree : ℕ) : Type 0 where
  pub fits : Fits 0 sql (understood schema sql)
  pub typed : accepts_program schema [] (ids_query tree) [] ≡ true

row_fits : FitsIds (codes "SELECT rowid FROM row ORDER BY rowid") 0
unfolding understood everything
row_fits = record { fits = (omega arith, refl, refl); typed = refl }

config_fits : FitsIds (codes "SELECT rowid FROM config ORDER BY rowid") 2
unfolding understood everything
config_fits = record { fits = (omega arith, refl, refl); typed = refl }

state_fits : FitsIds (codes "SELECT rowid FROM state ORDER BY rowid") 3
unfolding understood everything
state_fits = record { fits = (omega arith, refl, refl); typed = refl }

fits_ids : (sql : List ℕ) (tree : ℕ) → AsksRowids sql tree → FitsIds sql tree
fits_ids sql tree (inl h) = subst₂ FitsIds (sym h.0) (sym h.1) row_fits
fits_ids sql tree (inr (inl h)) = subst₂ FitsIds (sym h.0) (sym h.1) config_fits
fits_ids sql tree (inr (inr h)) = subst₂ FitsIds (sym h.0) (sym h.1) state_fits

-- ---- why each is refused

module _ (old new : State) (has : old.now.schema ≡ schema) (none : old.step_limit ≡ None) (e : Error) (other : e ≢ SqliteFailure code.OutOfMemory) (open_now : IsTrue old.is_open) where
  pub spans_fail : FailsToQuery rows_text [] old new e → MoreFaults old.faults new.faults
  spans_fail h = query_fails rows_text 0 rows_query.project rows_query.order _ rows_is rows_plain Rattle.sqlite_tables.proofs.Texts.rows_unlisted rows_fits rows_typed old new has none e other open_now h

  pub configs_fail : FailsToQuery configs_text [] old new e → MoreFaults old.faults new.faults
  configs_fail h = query_fails configs_text 2 configs_query.project configs_query.order _ configs_is configs_plain Rattle.sqlite_tables.proofs.Texts.configs_unlisted configs_fits configs_typed old new has none e other open_now h

  pub entries_fail : FailsToQuery read_text [] old new e → MoreFaults old.faults new.faults
  entries_fail h = query_fails read_text 3 entries_query.project entries_query.order _ entries_is entries_plain Rattle.sqlite_tables.proofs.Texts.entries_unlisted entries_fits entries_typed old new has none e other open_now h

  pub ids_fail : (sql : List ℕ) (tree : ℕ) → AsksRowids sql tree → FailsToQuery sql [] old new e → MoreFaults old.faults new.faults
  ids_fail sql tree asks h =
      let it = reads_ids sql tree asks in
      let also = fits_ids sql tree asks in
      query_fails sql tree (ids_query tree).project (ids_query tree).order it.names it.is it.plain it.unlisted also.fits also.typed old new has none e other open_now h
