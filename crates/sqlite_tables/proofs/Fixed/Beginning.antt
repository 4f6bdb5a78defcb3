-- The INSERT of a span is refused by no rule.
use Rattle.std.proofs.Common.{◌≡◌, ◌≢◌, ◌⊎◌, ◌<◌, ◌^◌, inl, inr, ℕ, pos, true, false, ◌&&◌, not, List, [], ◌∷◌, Some, None, Err, IsTrue, refl, sym, ap, subst, ◌∙◌, arith, true≢false}
use Rattle.std.specs.Ordering.{is_eq}
use Rattle.std.proofs.lemmas.Bool.{and_parts, and_from, not-true, lt-ltb, both_ways, false_from_ne_true}
use Rattle.sqlite_disk.specs.Disk.{MoreFaults}
use Rattle.sqlite.specs.declared.types.Value.TheVariants.{Int}
use Rattle.sqlite.specs.Order.{Row, column, value_cmp}
use Rattle.sqlite.specs.Tree.{Trees, rowid, with_tree}
use Rattle.sqlite.specs.View.{IsStorable, IsStorableRow}
use Rattle.sqlite.specs.Source.TheVariants.{Values}
use Rattle.sqlite.specs.Command.TheVariants.{Insert}
use Rattle.sqlite.specs.Edit.{Edit, edit_of, edited, left_by, is_taken, are_fresh, IsOversized}
use Rattle.sqlite.specs.Rowids.TheVariants.{Chosen}
use Rattle.sqlite.specs.Effect.{IsDatabase}
use Rattle.sqlite.specs.Listing.{understood}
use Rattle.sqlite.specs.State.{State, Executes, mode_of}
use Rattle.sqlite.specs.declared.error.Error.{Error}
use Rattle.sqlite.specs.declared.error.Error.TheVariants.{SqliteFailure}
use Rattle.sqlite.specs.declared.error.ErrorCode.TheVariants.{OutOfMemory}
use Rattle.sqlite.specs.Does.{Does, Concludes}
use Rattle.sqlite.specs.Rows.{Sourced, Inserts, Task}
use Rattle.sqlite.proofs.Callers.{statement_of}
use Rattle.sqlite_value.specs.Keys.{plain}
use Rattle.sqlite_sql.specs.Catalog.{entry_of}
use Rattle.sqlite_schema.specs.declared.schema.Index.{Index}
use Rattle.sqlite_schema.specs.Rules.{Keeps, agree, differ, clashes, index_reals}
use Rattle.sqlite_schema.specs.declared.schema.Constraint.TheVariants.{Unique}
use Rattle.sqlite_schema.specs.declared.schema.Keys.TheVariants.{Enforced}
use Rattle.sqlite_catalog.specs.Listing.{IsSound}
use Rattle.sqlite_rules.specs.Lists.{Has}
use Rattle.sqlite_rules.proofs.ListLemmas.{all_has, all_from, some_has, some_from}
use Rattle.sqlite_rules.proofs.TableLemmas.{put_has}
use Rattle.sqlite_rules.proofs.KeyLemmas.{agree_back}
use Rattle.sqlite_tables.specs.Format.{schema, row_table}
use Rattle.sqlite_tables.specs.Tables.{Contents, Span, Holds, span_cells}
use Rattle.sqlite_tables.specs.Numbered.{AreNumberedTo, BeganBefore, IsShort}
use Rattle.sqlite_tied.specs.Compute.{everything}
use Rattle.sqlite_tables.proofs.Texts.{indexes_are, insert_is, insert_plain, insert_terms, insert_text}
use Rattle.sqlite_tables.proofs.Insert.{cast_int, insert_params, open_span}
use Rattle.sqlite_tables.proofs.Fixed.Causes.{Fits}
use Rattle.sqlite_tables.proofs.Fixed.Failing.{Refuses, fails_as}
use Rattle.sqlite_tables.proofs.Fixed.Parts.{NeverStops, Passes, then_goes, gives_goes, edit_goes, concludes_goes}
use Rattle.sqlite_tables.proofs.Fixed.Shapes.{Shaped, shaped, all_true, other_number, row_refers}
use Rattle.sqlite_tables.proofs.Fixed.Checks.{checks_pass, key_columns, one_key, same_rowid_value}
use Rattle.sqlite_tables.proofs.Fixed.Storable.{short_span, short_span_key}

insert_fits : Fits 6 insert_text (understood schema insert_text)
unfolding understood everything
insert_fits = (omega arith, refl, refl)

abbrev new_row : ℕ → Span → Row
new_row id s = Int (pos id) ∷ span_cells (open_span s)

module _ (old : State) (id : ℕ) (s : Span) (h : Contents) (top : ℕ) (has : Holds old.now h) (sound : IsDatabase old.now) (ids : AreNumberedTo top old.now.trees) (above : top < id) (low : id < 2 ^ 63) (first : 0 < s.added)
    (began : BeganBefore s s.added h) (unlimited : old.step_limit ≡ None) (short : IsShort s) where
  abbrev params : Row
  params = insert_params id s

  abbrev db : Trees
  db = old.now.trees

  unique_before : Keeps Unique schema db
  unique_before = (subst (λ k. IsSound k db) has.schema_is sound).obeys.rules Unique

  span_of : (r : Row) → Has (db 0) r → Shaped span_cells h.spans top r
  span_of = shaped span_cells h.spans top (db 0) has.spans ids.spans

  -- the rowid is not there yet
  free : is_taken (db 0) (new_row id s) ≡ false
  free = false_from_ne_true _ (λ taken.
      let found = some_has (λ r. is_eq (value_cmp (rowid r) (Int (pos id)))) (db 0) taken in
      let r = span_of found.0 found.1 in
      both_ways _ (other_number r.id id (omega (arith, r.fits, above))) (ap (λ row. is_eq (value_cmp (rowid row) (Int (pos id)))) (sym r.is) ∙ found.2))

  -- nor is the key
  new_key : (r : Row) → Has (db 0) r → ¬ (agree plain key_columns r key_columns (new_row id s) ≡ true)
  new_key r there agrees =
      let x = span_of r there in
      let same = one_key x.id id x.x (open_span s) (sym (ap (λ row. agree plain key_columns row key_columns (new_row id s)) x.is) ∙ agrees) in
      absurd (omega (arith, all_has _ h.spans x.x began x.among same.0, same.1))

  module _ (rows : List Row) (given : rows ≡ new_row id s ∷ []) where
    abbrev edit : Edit
    edit = edit_of db row_table [] Chosen 0 rows

    news_are : edit.news ≡ new_row id s ∷ []
    news_are = ap (λ all. (edit_of db row_table [] Chosen 0 all).news) given ∙ rw (cast_int (pos id), cast_int (pos s.added), cast_int (pos 0)) refl

    is_new : (r : Row) → Has edit.news r → r ≡ new_row id s
    is_new r there = elim (subst (λ all. Has all r) news_are there) [ inl is ↦ is | inr none ↦ absurd none ]

    origin : (r : Row) → Has (edited db edit) r → (r ≡ new_row id s) ⊎ Has (db 0) r
    origin r there = put_has (new_row id s) (db 0) r (subst (λ news. Has (Rattle.sqlite.specs.Edit.put_all (db 0) news) r) news_are there)

    met : (r other : Row) → (r ≡ new_row id s) ⊎ Has (db 0) r → (other ≡ new_row id s) ⊎ Has (db 0) other → ¬ ((agree plain key_columns other key_columns r && differ (rowid other) (rowid r)) ≡ true)
    met r other (inl is) (inl same) both =
        both_ways _ (same_rowid_value id) (ap (λ row. differ (rowid row) (Int (pos id))) (sym same) ∙ (ap (λ row. differ (rowid other) (rowid row)) (sym is) ∙ (and_parts (agree plain key_columns other key_columns r) _ both).1))
    met r other (inl is) (inr there) both =
        new_key other there (ap (λ row. agree plain key_columns other key_columns row) (sym is) ∙ (and_parts (agree plain key_columns other key_columns r) _ both).0)
    met r other (inr there) (inl same) both =
        new_key r there (ap (λ row. agree plain key_columns r key_columns row) (sym same) ∙ agree_back plain key_columns key_columns other r (and_parts (agree plain key_columns other key_columns r) _ both).0)
    met r other (inr there) (inr also) both =
        both_ways _ (not-true _ (and_parts _ _ (all_has _ (db 0) r unique_before.0 there)).0) (some_from (λ x. agree plain key_columns x key_columns r && differ (rowid x) (rowid r)) (db 0) other also both)

    apart : (r : Row) → Has (edited db edit) r → clashes plain key_columns (edited db edit) r ≡ false
    apart r there = false_from_ne_true _ (λ clash.
        let other = some_has (λ x. agree plain key_columns x key_columns r && differ (rowid x) (rowid r)) (edited db edit) clash in met r other.0 (origin r there) (origin other.0 other.1) other.2)

    still_short : IsShort (open_span s)
    still_short = record { namespace = short.namespace; object = short.object; relation = short.relation; subject = short.subject }

    small_row : (row : Row) → Has edit.news row → ¬ IsOversized schema row_table row
    small_row row there (inl big) = big (subst (IsStorableRow 0) (sym (is_new row there)) (short_span id (open_span s) still_short))
    small_row row there (inr (index, listed, owned, big)) =
        elim (subst (λ (all : List Index). Has all index) indexes_are listed) [
          | inl is ↦ big (subst (λ (i : Index). IsStorable (index_reals 0 i.columns) (entry_of i.columns row)) (sym is)
              (subst (λ (r : Row). IsStorable 0 (entry_of key_columns r)) (sym (is_new row there)) (short_span_key id (open_span s) still_short)))
          | inr (inl is) ↦ absurd (omega (arith, owned, ap (λ (i : Index). i.table) is))
          | inr (inr none) ↦ none
        ]

    span_passes : Passes schema db edit
    span_passes = record {
      typed = rw news_are refl;
      present = rw news_are refl;
      checked = rw news_are (and_from _ _ (checks_pass id (open_span s) first refl) refl);
      fresh = rw news_are (and_from _ _ (ap not free) refl);
      unique = (all_from _ (edited db edit) (λ r there. and_from _ _ (ap not (apart r there)) refl), (all_true (db 2), (unique_before.1.1.0, tt)));
      keyed = rw news_are refl;
      fit = rw news_are (and_from _ _ (lt-ltb id (2 ^ 63) low) refl);
      referred = row_refers _ false;
      small = small_row;
    }

  abbrev task : Task
  task = record { limit = old.step_limit; keys = Enforced; schema = schema; table = row_table; params = params }

  span_source_goes : NeverStops (Sourced old.step_limit (record { schema = schema; trees = db }) params (Values insert_terms 7))
  span_source_goes None none = none
  span_source_goes (Some e) (inl mistyped) = true≢false mistyped.1
  span_source_goes (Some e) (inr limited) = true≢false (sym (rw unlimited at limited.1))

  span_inserts_goes : NeverStops (Inserts task (Values insert_terms 7) db)
  span_inserts_goes stop (inl h) = span_source_goes h.0 h.1
  span_inserts_goes stop (inr (rows, given, inl counted)) = gives_goes _ counted.0 counted.1
  span_inserts_goes stop (inr (rows, given, inr (counter, counted, inl refused))) = edit_goes schema db (edit rows given.1) (span_passes rows given.1) refl refused.0 refused.1
  span_inserts_goes stop (inr (rows, given, inr (counter, counted, inr (mid, went, inl over)))) = gives_goes _ over.0 over.1
  span_inserts_goes stop (inr (rows, given, inr (counter, counted, inr (mid, went, inr done)))) = gives_goes _ stop done.2

  span_goes : ¬ Refuses old params (statement_of insert_text (understood schema insert_text)) (Insert 0 (Values insert_terms 7))
  span_goes (stop, does) =
      let d = subst (λ k. Does old.step_limit (mode_of old) params (record old.now { schema = k }) (statement_of insert_text (understood schema insert_text)) None (Insert 0 (Values insert_terms 7)) (Err stop)) has.schema_is does in
      then_goes (Inserts task (Values insert_terms 7) db) (Concludes task (mode_of old) None) span_inserts_goes (λ w wrote. concludes_goes task refl (mode_of old) w) stop d

  -- It fails where the device does, or memory is wanting.
  pub span_caused : (new : State) (e : Error) → e ≢ SqliteFailure OutOfMemory → IsTrue old.is_open → Executes insert_text params old new (Err e) → MoreFaults old.faults new.faults
  span_caused new e other is_open ran = elim (fails_as insert_text params old new schema has.schema_is (Insert 0 (Values insert_terms 7)) insert_is insert_plain insert_fits tt e other is_open ran) [ inl more ↦ more | inr refused ↦ absurd (span_goes refused) ]
