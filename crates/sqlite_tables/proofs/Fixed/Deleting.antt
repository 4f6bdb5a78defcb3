-- The two DELETEs of a trim are refused by no rule.
use Rattle.std.proofs.Common.{◌≡◌, ◌≢◌, inl, inr, ℕ, Bool, true, false, not, ◌&&◌, List, [], ◌∷◌, length, filter, Some, None, Err, IsTrue, refl, sym, ap, subst, ◌∙◌, arith, true≢false}
use Rattle.std.specs.List.{AllByRecursion}
use Rattle.std.specs.List.Sorted.{IsPermutation}
use Rattle.std.specs.Prelude.{map, nat_lt}
use Rattle.std.proofs.lemmas.Bool.{and_parts, and_from, not-true, both_ways, false_from_ne_true}
use Rattle.sqlite_disk.specs.Disk.{MoreFaults}
use Rattle.sqlite.specs.declared.types.Value.TheVariants.{Null}
use Rattle.sqlite.specs.Order.{Row}
use Rattle.sqlite.specs.Tree.{Trees, rowid}
use Rattle.sqlite.specs.Command.TheVariants.{Delete}
use Rattle.sqlite.specs.Edit.{Edit, edit_of, edited, IsOversized}
use Rattle.sqlite.specs.Rowids.TheVariants.{Given}
use Rattle.sqlite.specs.Effect.{IsDatabase}
use Rattle.sqlite.specs.Listing.{understood}
use Rattle.sqlite.specs.State.{State, Executes, mode_of}
use Rattle.sqlite.specs.Table.{Table}
use Rattle.sqlite.specs.declared.error.Error.{Error}
use Rattle.sqlite.specs.declared.error.Error.TheVariants.{SqliteFailure}
use Rattle.sqlite.specs.declared.error.ErrorCode.TheVariants.{OutOfMemory}
use Rattle.sqlite.specs.Does.{Does, Concludes}
use Rattle.sqlite.specs.Rows.{Queried, Deletes, Task}
use Rattle.sqlite.proofs.Callers.{statement_of}
use Rattle.sqlite_tied.specs.Compute.{everything}
use Rattle.sqlite_value.specs.Keys.{plain}
use Rattle.sqlite_schema.specs.Rules.{Keeps, agree, differ, clashes, references_fit}
use Rattle.sqlite_schema.specs.declared.schema.Constraint.TheVariants.{Unique}
use Rattle.sqlite_schema.specs.declared.schema.Keys.TheVariants.{Enforced}
use Rattle.sqlite_catalog.specs.Listing.{IsSound}
use Rattle.sqlite_rules.specs.Lists.{Has}
use Rattle.sqlite_rules.specs.Calls.{ids_of}
use Rattle.sqlite_rules.proofs.ListLemmas.{all_has, all_from, any_has, some_has, some_from, has_filtered}
use Rattle.sqlite_tables.specs.Format.{schema, row_table, config_table}
use Rattle.sqlite_tables.specs.Tables.{Contents, Holds}
use Rattle.sqlite_tables.proofs.Texts.{alone, drop_text, drop_query, drop_is, drop_plain, drop_configs_text, drop_configs_query, drop_configs_is, drop_configs_plain}
use Rattle.sqlite_tables.proofs.Scan.{scan_rows}
use Rattle.sqlite_tables.proofs.Dropping.{config_table_at, deletes, id_row, passes_config, passes_span, past_params}
use Rattle.sqlite_tables.proofs.Fixed.Causes.{Fits}
use Rattle.sqlite_tables.proofs.Fixed.Failing.{Refuses, fails_as}
use Rattle.sqlite_tables.proofs.Fixed.Parts.{NeverStops, Passes, then_goes, gives_goes, edit_goes, concludes_goes}
use Rattle.sqlite_tables.proofs.Fixed.Shapes.{all_true, row_refers}
use Rattle.sqlite_tables.proofs.Fixed.Checks.{key_columns}

drop_fits : Fits 1 drop_text (understood schema drop_text)
unfolding understood everything
drop_fits = (omega arith, refl, refl)

drop_configs_fits : Fits 1 drop_configs_text (understood schema drop_configs_text)
unfolding understood everything
drop_configs_fits = (omega arith, refl, refl)

config_refers : (adds removes : Bool) → references_fit schema config_table_at adds removes ≡ true
config_refers true true = refl
config_refers true false = refl
config_refers false true = refl
config_refers false false = refl

-- of fewer rows none clashes with another
fewer_clash : (columns : List ℕ) (rows : List Row) (keep : Row → Bool) → ((r : Row) → Has rows r → clashes plain columns rows r ≡ false) → (r : Row) → Has (filter keep rows) r → clashes plain columns (filter keep rows) r ≡ false
fewer_clash columns rows keep apart r there = false_from_ne_true _ (λ clash.
    let other = some_has (λ x. agree plain columns x columns r && differ (rowid x) (rowid r)) (filter keep rows) clash in
    both_ways _ (apart r (has_filtered keep rows r there).0) (some_from (λ x. agree plain columns x columns r && differ (rowid x) (rowid r)) rows other.0 (has_filtered keep rows other.0 other.1).0 other.2))

module _ (old : State) (h : Contents) (has : Holds old.now h) (sound : IsDatabase old.now) (unlimited : old.step_limit ≡ None) where
  abbrev db : Trees
  db = old.now.trees

  unique_before : Keeps Unique schema db
  unique_before = (subst (λ k. IsSound k db) has.schema_is sound).obeys.rules Unique

  apart : (r : Row) → Has (db 0) r → clashes plain key_columns (db 0) r ≡ false
  apart r there = not-true _ (and_parts _ _ (all_has _ (db 0) r unique_before.0 there)).0

  -- ---- the spans

  module _ (floor : ℕ) where
    abbrev span_params : Row
    span_params = past_params floor

    abbrev span_task : Task
    span_task = record { limit = old.step_limit; keys = Enforced; schema = schema; table = row_table; params = span_params }

    module _ (rows : List Row) (shown : IsPermutation (map id_row (filter (passes_span floor) (db 0))) rows) where
      abbrev span_edit : Edit
      span_edit = edit_of db row_table (ids_of rows) Given 0 []

      left : edited db span_edit ≡ filter (λ r. not (passes_span floor r)) (db 0)
      left = deletes db row_table (passes_span floor) rows has.spans_rowids shown

      still_apart : (r : Row) → Has (edited db span_edit) r → clashes plain key_columns (edited db span_edit) r ≡ false
      still_apart = subst (λ all. (r : Row) → Has all r → clashes plain key_columns all r ≡ false) (sym left) (fewer_clash key_columns (db 0) (λ r. not (passes_span floor r)) apart)

      spans_pass : Passes schema db span_edit
      spans_pass = record {
        typed = refl;
        present = refl;
        checked = refl;
        fresh = refl;
        unique = (all_from _ (edited db span_edit) (λ r there. and_from _ _ (ap not (still_apart r there)) refl), (all_true (db 2), (unique_before.1.1.0, tt)));
        keyed = refl;
        fit = refl;
        referred = row_refers false (nat_lt 0 (length span_edit.gone));
        small = λ row there. absurd there;
      }

    span_query_goes : NeverStops (Queried old.step_limit (record { schema = schema; trees = db }) (alone drop_query) span_params)
    span_query_goes None none = none
    span_query_goes (Some e) (inl mistyped) = true≢false mistyped.1
    span_query_goes (Some e) (inr (inl (is, inl grouped))) = grouped
    span_query_goes (Some e) (inr (inl (is, inr folded))) = (any_has _ _ folded).2
    span_query_goes (Some e) (inr (inr limited)) = true≢false (sym (rw unlimited at limited.1))

    spans_go : NeverStops (Deletes span_task (alone drop_query) db)
    spans_go stop (inl out) = span_query_goes out.0 out.1
    spans_go stop (inr (rows, answered, inl refused)) =
        let shown = scan_rows 0 drop_query.filter drop_query.project [] _ span_params rows (answered.answer Null) in edit_goes schema db (span_edit rows shown) (spans_pass rows shown) refl refused.0 refused.1
    spans_go stop (inr (rows, answered, inr went)) = gives_goes _ stop went.2

    spans_run : ¬ Refuses old span_params (statement_of drop_text (understood schema drop_text)) (Delete 0 (alone drop_query))
    spans_run (stop, does) =
        let d = subst (λ k. Does old.step_limit (mode_of old) span_params (record old.now { schema = k }) (statement_of drop_text (understood schema drop_text)) None (Delete 0 (alone drop_query)) (Err stop)) has.schema_is does in
        then_goes (Deletes span_task (alone drop_query) db) (Concludes span_task (mode_of old) None) spans_go (λ w wrote. concludes_goes span_task refl (mode_of old) w) stop d

    -- It fails where the device does, or memory is wanting.
    pub drop_caused : (new : State) (e : Error) → e ≢ SqliteFailure OutOfMemory → IsTrue old.is_open → Executes drop_text span_params old new (Err e) → MoreFaults old.faults new.faults
    drop_caused new e other is_open ran = elim (fails_as drop_text span_params old new schema has.schema_is (Delete 0 (alone drop_query)) drop_is drop_plain drop_fits tt e other is_open ran) [ inl more ↦ more | inr refused ↦ absurd (spans_run refused) ]

  -- ---- the configurations

  module _ (rev : ℕ) where
    abbrev config_params : Row
    config_params = past_params rev

    abbrev config_task : Task
    config_task = record { limit = old.step_limit; keys = Enforced; schema = schema; table = config_table_at; params = config_params }

    module _ (rows : List Row) where
      abbrev config_edit : Edit
      config_edit = edit_of db config_table_at (ids_of rows) Given 0 []

      configs_pass : Passes schema db config_edit
      configs_pass = record {
        typed = refl;
        present = refl;
        checked = refl;
        fresh = refl;
        unique = (unique_before.0, (all_true (edited db config_edit), (unique_before.1.1.0, tt)));
        keyed = refl;
        fit = refl;
        referred = config_refers false (nat_lt 0 (length config_edit.gone));
        small = λ row there. absurd there;
      }

    config_query_goes : NeverStops (Queried old.step_limit (record { schema = schema; trees = db }) (alone drop_configs_query) config_params)
    config_query_goes None none = none
    config_query_goes (Some e) (inl mistyped) = true≢false mistyped.1
    config_query_goes (Some e) (inr (inl (is, inl grouped))) = grouped
    config_query_goes (Some e) (inr (inl (is, inr folded))) = (any_has _ _ folded).2
    config_query_goes (Some e) (inr (inr limited)) = true≢false (sym (rw unlimited at limited.1))

    configs_go : NeverStops (Deletes config_task (alone drop_configs_query) db)
    configs_go stop (inl out) = config_query_goes out.0 out.1
    configs_go stop (inr (rows, answered, inl refused)) = edit_goes schema db (config_edit rows) (configs_pass rows) refl refused.0 refused.1
    configs_go stop (inr (rows, answered, inr went)) = gives_goes _ stop went.2

    configs_run : ¬ Refuses old config_params (statement_of drop_configs_text (understood schema drop_configs_text)) (Delete 1 (alone drop_configs_query))
    configs_run (stop, does) =
        let d = subst (λ k. Does old.step_limit (mode_of old) config_params (record old.now { schema = k }) (statement_of drop_configs_text (understood schema drop_configs_text)) None (Delete 1 (alone drop_configs_query)) (Err stop)) has.schema_is does in
        then_goes (Deletes config_task (alone drop_configs_query) db) (Concludes config_task (mode_of old) None) configs_go (λ w wrote. concludes_goes config_task refl (mode_of old) w) stop d

    -- It fails where the device does, or memory is wanting.
    pub drop_configs_caused : (new : State) (e : Error) → e ≢ SqliteFailure OutOfMemory → IsTrue old.is_open → Executes drop_configs_text config_params old new (Err e) → MoreFaults old.faults new.faults
    drop_configs_caused new e other is_open ran =
        elim (fails_as drop_configs_text config_params old new schema has.schema_is (Delete 1 (alone drop_configs_query)) drop_configs_is drop_configs_plain drop_configs_fits tt e other is_open ran) [ inl more ↦ more | inr refused ↦ absurd (configs_run refused) ]
