-- The INSERT of a configuration is refused by no rule.
use Rattle.std.proofs.Common.{◌≡◌, ◌≢◌, ◌≤◌, ◌<◌, ◌^◌, inl, inr, ℕ, pos, Bool, true, false, not, List, [], ◌∷◌, length, Some, None, Err, IsTrue, refl, sym, ap, subst, ◌∙◌, arith, true≢false}
use Rattle.std.specs.Ordering.{is_eq}
use Rattle.std.proofs.lemmas.Bool.{and_from, lt-ltb, both_ways, false_from_ne_true}
use Rattle.sqlite_disk.specs.Disk.{MoreFaults}
use Rattle.sqlite.specs.declared.types.Value.TheVariants.{Null, Int, Text}
use Rattle.sqlite.specs.Order.{Row, value_cmp}
use Rattle.sqlite.specs.Tree.{Trees, rowid}
use Rattle.sqlite.specs.Table.{Table}
use Rattle.sqlite.specs.View.{IsStorableRow}
use Rattle.sqlite.specs.Source.TheVariants.{Values}
use Rattle.sqlite.specs.Command.TheVariants.{Insert}
use Rattle.sqlite.specs.Edit.{Edit, edit_of, edited, is_taken, IsOversized}
use Rattle.sqlite.specs.Rowids.TheVariants.{Chosen}
use Rattle.sqlite.specs.Effect.{IsDatabase}
use Rattle.sqlite.specs.Listing.{understood}
use Rattle.sqlite.specs.State.{State, Executes, mode_of}
use Rattle.sqlite.specs.declared.error.Error.{Error}
use Rattle.sqlite.specs.declared.error.Error.TheVariants.{SqliteFailure}
use Rattle.sqlite.specs.declared.error.ErrorCode.TheVariants.{OutOfMemory}
use Rattle.sqlite.specs.Does.{Does, Concludes}
use Rattle.sqlite.specs.Rows.{Sourced, Inserts, Task}
use Rattle.sqlite.proofs.Callers.{statement_of}
use Rattle.sqlite_tied.specs.Compute.{everything}
use Rattle.sqlite_schema.specs.declared.schema.Index.{Index}
use Rattle.sqlite_schema.specs.Rules.{Keeps, references_fit}
use Rattle.sqlite_schema.specs.declared.schema.Constraint.TheVariants.{Unique}
use Rattle.sqlite_schema.specs.declared.schema.Keys.TheVariants.{Enforced}
use Rattle.sqlite_catalog.specs.Listing.{IsSound}
use Rattle.sqlite_rules.specs.Lists.{Has}
use Rattle.sqlite_rules.proofs.ListLemmas.{all_has, some_has}
use Rattle.sqlite_tables.specs.Format.{schema, config_table}
use Rattle.sqlite_tables.specs.Tables.{Contents, ConfigRow, Holds, config_with_rowid}
use Rattle.sqlite_tables.specs.Numbered.{IsUpTo}
use Rattle.sqlite_tables.proofs.Texts.{config_insert_text, config_terms, config_insert_is, config_insert_plain, indexes_are}
use Rattle.sqlite_tables.proofs.Insert.{cast_null, cast_int}
use Rattle.sqlite_tables.proofs.InsertConfig.{config_params}
use Rattle.sqlite_tables.proofs.Fixed.Causes.{Fits}
use Rattle.sqlite_tables.proofs.Fixed.Failing.{Refuses, fails_as}
use Rattle.sqlite_tables.proofs.Fixed.Parts.{NeverStops, Passes, then_goes, gives_goes, edit_goes, concludes_goes}
use Rattle.sqlite_tables.proofs.Fixed.Rewritten.{has_permuted, has_mapped}
use Rattle.sqlite_tables.proofs.Fixed.Shapes.{all_true, other_number}
use Rattle.sqlite_tables.proofs.Fixed.Storable.{short_config}

config_fits : Fits 2 config_insert_text (understood schema config_insert_text)
unfolding understood everything
config_fits = (omega arith, refl, refl)

abbrev config_at : Table
config_at = record config_table { tree = 2 }

refers_to_none : (adds removes : Bool) → references_fit schema config_at adds removes ≡ true
refers_to_none true true = refl
refers_to_none true false = refl
refers_to_none false true = refl
refers_to_none false false = refl

module _ (old : State) (c : ConfigRow) (h : Contents) (newest : ℕ) (has : Holds old.now h) (sound : IsDatabase old.now) (up_to : IsUpTo newest h) (later : newest < c.rev) (low : c.rev < 2 ^ 63) (unlimited : old.step_limit ≡ None)
    (short : length c.text ≤ 10 ^ 8) where
  abbrev params : Row
  params = config_params c

  abbrev db : Trees
  db = old.now.trees

  unique_before : Keeps Unique schema db
  unique_before = (subst (λ k. IsSound k db) has.schema_is sound).obeys.rules Unique

  -- its revision is no rowid yet
  free : is_taken (db 2) (config_with_rowid c) ≡ false
  free = false_from_ne_true _ (λ taken.
      let found = some_has (λ r. is_eq (value_cmp (rowid r) (Int (pos c.rev)))) (db 2) taken in
      let x = has_mapped config_with_rowid h.configs found.0 (has_permuted _ _ found.0 has.configs found.1) in
      both_ways _ (other_number x.0.rev c.rev (omega (arith, all_has _ h.configs x.0 up_to.configs x.1, later))) (ap (λ r. is_eq (value_cmp (rowid r) (Int (pos c.rev)))) (sym x.2) ∙ found.2))

  module _ (rows : List Row) (given : rows ≡ (Int (pos c.rev) ∷ Null ∷ Text c.text ∷ []) ∷ []) where
    abbrev edit : Edit
    edit = edit_of db config_at [] Chosen 0 rows

    news_are : edit.news ≡ config_with_rowid c ∷ []
    news_are = ap (λ all. (edit_of db config_at [] Chosen 0 all).news) given ∙ rw (cast_null, cast_int (pos c.rev)) refl

    small_row : (row : Row) → Has edit.news row → ¬ IsOversized schema config_at row
    small_row row there (inl big) = elim (subst (λ all. Has all row) news_are there) [ inl is ↦ big (subst (IsStorableRow 0) (sym is) (short_config c.rev c.text short)) | inr none ↦ none ]
    small_row row there (inr (index, listed, owned, big)) =
        elim (subst (λ (all : List Index). Has all index) indexes_are listed) [
          | inl is ↦ absurd (omega (arith, owned, ap (λ (i : Index). i.table) is))
          | inr (inl is) ↦ absurd (omega (arith, owned, ap (λ (i : Index). i.table) is))
          | inr (inr none) ↦ none
        ]

    config_passes : Passes schema db edit
    config_passes = record {
      typed = rw news_are refl;
      present = rw news_are refl;
      checked = rw news_are refl;
      fresh = rw news_are (and_from _ _ (ap not free) refl);
      unique = (unique_before.0, (all_true (edited db edit), (unique_before.1.1.0, tt)));
      keyed = rw news_are refl;
      fit = rw news_are (and_from _ _ (lt-ltb c.rev (2 ^ 63) low) refl);
      referred = refers_to_none _ false;
      small = small_row;
    }

  abbrev task : Task
  task = record { limit = old.step_limit; keys = Enforced; schema = schema; table = config_at; params = params }

  config_source_goes : NeverStops (Sourced old.step_limit (record { schema = schema; trees = db }) params (Values config_terms 3))
  config_source_goes None none = none
  config_source_goes (Some e) (inl mistyped) = true≢false mistyped.1
  config_source_goes (Some e) (inr limited) = true≢false (sym (rw unlimited at limited.1))

  config_inserts_goes : NeverStops (Inserts task (Values config_terms 3) db)
  config_inserts_goes stop (inl h) = config_source_goes h.0 h.1
  config_inserts_goes stop (inr (rows, given, inl counted)) = gives_goes _ counted.0 counted.1
  config_inserts_goes stop (inr (rows, given, inr (counter, counted, inl refused))) = edit_goes schema db (edit rows given.1) (config_passes rows given.1) refl refused.0 refused.1
  config_inserts_goes stop (inr (rows, given, inr (counter, counted, inr (mid, went, inl over)))) = gives_goes _ over.0 over.1
  config_inserts_goes stop (inr (rows, given, inr (counter, counted, inr (mid, went, inr done)))) = gives_goes _ stop done.2

  config_goes : ¬ Refuses old params (statement_of config_insert_text (understood schema config_insert_text)) (Insert 1 (Values config_terms 3))
  config_goes (stop, does) =
      let d = subst (λ k. Does old.step_limit (mode_of old) params (record old.now { schema = k }) (statement_of config_insert_text (understood schema config_insert_text)) None (Insert 1 (Values config_terms 3)) (Err stop)) has.schema_is does in
      then_goes (Inserts task (Values config_terms 3) db) (Concludes task (mode_of old) None) config_inserts_goes (λ w wrote. concludes_goes task refl (mode_of old) w) stop d

  -- It fails where the device does, or memory is wanting.
  pub config_caused : (new : State) (e : Error) → e ≢ SqliteFailure OutOfMemory → IsTrue old.is_open → Executes config_insert_text params old new (Err e) → MoreFaults old.faults new.faults
  config_caused new e other is_open ran = elim (fails_as config_insert_text params old new schema has.schema_is (Insert 1 (Values config_terms 3)) config_insert_is config_insert_plain config_fits tt e other is_open ran) [ inl more ↦ more | inr refused ↦ absurd (config_goes refused) ]
