-- The UPDATE of a state value is refused by no rule.
use Rattle.std.proofs.Common.{◌≡◌, ◌≢◌, ◌≤◌, ◌-◌, ◌^◌, inl, inr, ℕ, pos, Bool, true, false, not, List, [], ◌∷◌, map, drop, filter, length, Some, None, Err, IsTrue, refl, sym, ap, subst, ◌∙◌, arith, true≢false}
use Rattle.std.specs.List.{list_all}
use Rattle.std.specs.List.Sorted.{IsPermutation}
use Rattle.std.specs.Str.{bytes_eq}
use Rattle.std.proofs.lemmas.Bool.{and_parts, and_from, not-true, lt-ltb}
use Rattle.std.proofs.lemmas.Slice.Eq.{bytes_eq-Decides}
use Rattle.sqlite_disk.specs.Disk.{MoreFaults}
use Rattle.sqlite.specs.declared.types.Value.TheVariants.{Null, Int, Text}
use Rattle.sqlite.specs.Order.{Row, column}
use Rattle.sqlite.specs.Tree.{Trees, rowid}
use Rattle.sqlite.specs.Table.{Table}
use Rattle.sqlite.specs.Term.{col, eval_all, holds}
use Rattle.sqlite.specs.Command.TheVariants.{Update}
use Rattle.sqlite.specs.Cast.{cast_row}
use Rattle.sqlite.specs.Edit.{Edit, edit_of, edited, IsOversized}
use Rattle.sqlite.specs.Rowids.TheVariants.{Given}
use Rattle.sqlite.specs.Effect.{IsDatabase}
use Rattle.sqlite.specs.Listing.{understood}
use Rattle.sqlite.specs.State.{State, Executes, mode_of}
use Rattle.sqlite.specs.declared.error.Error.{Error}
use Rattle.sqlite.specs.declared.error.Error.TheVariants.{SqliteFailure}
use Rattle.sqlite.specs.declared.error.ErrorCode.TheVariants.{OutOfMemory}
use Rattle.sqlite.specs.Does.{Does, Concludes}
use Rattle.sqlite.specs.Rows.{Queried, Updates, Task}
use Rattle.sqlite.proofs.Callers.{statement_of}
use Rattle.sqlite_tied.specs.Compute.{everything}
use Rattle.sqlite_value.specs.Keys.{plain}
use Rattle.sqlite.specs.View.{IsStorable, IsStorableRow}
use Rattle.sqlite_sql.specs.Catalog.{entry_of}
use Rattle.sqlite_schema.specs.declared.schema.Index.{Index}
use Rattle.sqlite_schema.specs.Rules.{Keeps, clashes, references_fit, index_reals}
use Rattle.sqlite_catalog.specs.Listing.{IsSound}
use Rattle.sqlite_schema.specs.declared.schema.Constraint.TheVariants.{Unique}
use Rattle.sqlite_schema.specs.declared.schema.Keys.TheVariants.{Enforced}
use Rattle.sqlite_rules.specs.Lists.{Has}
use Rattle.sqlite_rules.specs.Calls.{ids_of}
use Rattle.sqlite_rules.proofs.ListLemmas.{all_has, all_from, any_has, test_from}
use Rattle.sqlite_tables.specs.Format.{schema, state_table}
use Rattle.sqlite_tables.specs.Tables.{Contents, Entry, Holds, entry_cells}
use Rattle.sqlite_tables.specs.Numbered.{IsNumbered, AreNumberedTo}
use Rattle.sqlite_tables.proofs.Texts.{set_text, set_query, alone, set_is, set_plain, indexes_are}
use Rattle.sqlite_tables.proofs.Insert.{cast_int}
use Rattle.sqlite_tables.proofs.Scan.{scan_rows, text_test}
use Rattle.sqlite_tables.proofs.Set.{set_params}
use Rattle.sqlite_tables.proofs.Update.{source_of}
use Rattle.sqlite_tables.proofs.Fixed.Causes.{Fits}
use Rattle.sqlite_tables.proofs.Fixed.Failing.{Refuses, fails_as}
use Rattle.sqlite_tables.proofs.Fixed.Parts.{NeverStops, Passes, then_goes, gives_goes, edit_goes, concludes_goes}
use Rattle.sqlite_tables.proofs.Fixed.Rewritten.{has_permuted, has_mapped, mapped_has, new_is, fresh_after, apart_after}
use Rattle.sqlite_tables.proofs.Fixed.Storable.{short_entry, short_key}

set_fits : Fits 2 set_text (understood schema set_text)
unfolding understood everything
set_fits = (omega arith, refl, refl)

abbrev state_at : Table
state_at = record state_table { tree = 3 }

abbrev passes_set : Row → Row → Bool
passes_set params r = list_all (holds (params ∷ r ∷ [])) set_query.filter

abbrev sets_to : Row → Row → Row
sets_to params r = eval_all (col 1 1 ∷ col 0 1 ∷ []) (params ∷ r ∷ [])

refers_to_none : (adds removes : Bool) → references_fit schema state_at adds removes ≡ true
refers_to_none true true = refl
refers_to_none true false = refl
refers_to_none false true = refl
refers_to_none false false = refl

-- a row of the table is an entry under a rowid
record IsEntry (r : Row) : Type 0 where
  id : ℕ
  name : List ℕ
  number : ℕ
  fits : id ≤ 2 ^ 63 - 1
  is : r ≡ Int (pos id) ∷ Text name ∷ Int (pos number) ∷ []

whole : (r : Row) (id : ℕ) (e : Entry) → rowid r ≡ Int (pos id) → drop 1 r ≡ entry_cells e → r ≡ Int (pos id) ∷ entry_cells e
whole [] id e at cells = absurd (cc)
whole (v ∷ r) id e at cells = ap (λ w. w ∷ r) at ∙ ap (λ more. Int (pos id) ∷ more) cells

same_text : (a b : List ℕ) → bytes_eq a b ≡ true → a ≡ b
same_text a b is = (bytes_eq-Decides a b).0 is

name_is : (params : Row) (key : List ℕ) (id name : _) (number value : ℕ) → passes_set (set_params key value) (Int (pos id) ∷ Text name ∷ Int (pos number) ∷ []) ≡ true → name ≡ key
name_is params key id name number value is = same_text name key (sym (text_test name key) ∙ (and_parts _ _ is).0)

-- what is written in its place
written_is : (key : List ℕ) (value id : ℕ) (name : List ℕ) (number : ℕ)
    → cast_row state_at (Int (pos id) ∷ sets_to (set_params key value) (Int (pos id) ∷ Text name ∷ Int (pos number) ∷ [])) ≡ Int (pos id) ∷ Text name ∷ Int (pos value) ∷ []
written_is key value id name number = rw (cast_int (pos id), cast_int (pos value)) refl

module _ (old : State) (key : List ℕ) (value : ℕ) (h : Contents) (top : ℕ) (has : Holds old.now h) (sound : IsDatabase old.now) (ids : AreNumberedTo top old.now.trees) (unlimited : old.step_limit ≡ None) (short : length key ≤ 10 ^ 8) where
  abbrev params : Row
  params = set_params key value

  abbrev db : Trees
  db = old.now.trees

  abbrev P : Row → Bool
  P = passes_set params

  abbrev f : Row → Row
  f = sets_to params

  entry_is : (r : Row) → Has (db 3) r → IsEntry r
  entry_is r there =
      let id = all_has (IsNumbered (2 ^ 63 - 1)) (db 3) r ids.entries there in
      let e = has_mapped entry_cells h.entries (drop 1 r) (has_permuted _ _ (drop 1 r) has.entries (mapped_has (drop 1) (db 3) r there)) in
      record { id = id.0; name = e.0.key; number = e.0.value; fits = id.2; is = whole r id.0 e.0 id.1 e.2 }

  -- a new row is that of the key, with the value
  record IsNew (r : Row) : Type 0 where
    id : ℕ
    fits : id ≤ 2 ^ 63 - 1
    is : r ≡ Int (pos id) ∷ Text key ∷ Int (pos value) ∷ []

  module _ (rows : List Row) (shown : IsPermutation (map (source_of f) (filter P (db 3))) rows) where
    abbrev edit : Edit
    edit = edit_of db state_at (ids_of rows) Given 1 rows

    new_entry : (n : Row) → Has edit.news n → IsNew n
    new_entry n there =
        let from = new_is db state_at P f rows has.entries_rowids shown n there in
        let e = entry_is from.0 from.1 in
        let same : e.name ≡ key = name_is params key e.id e.name e.number value (sym (ap P e.is) ∙ from.2) in
        record { id = e.id; fits = e.fits; is = from.3 ∙ (ap (λ r. cast_row state_at (rowid r ∷ f r)) e.is ∙ (written_is key value e.id e.name e.number ∙ ap (λ t. Int (pos e.id) ∷ Text t ∷ Int (pos value) ∷ []) same)) }

    unique_before : Keeps Unique schema db
    unique_before = (subst (λ k. IsSound k db) has.schema_is sound).obeys.rules Unique

    apart : (r : Row) → Has (db 3) r → clashes plain (1 ∷ []) (db 3) r ≡ false
    apart r there = not-true _ (and_parts _ _ (all_has _ (db 3) r unique_before.1.1.0 there)).0

    same_key : (r : Row) → Has (db 3) r → P r ≡ true → (p : ℕ) → Has (1 ∷ []) p → column (cast_row state_at (rowid r ∷ f r)) p ≡ column r p
    same_key r there passing p (inl is) = let e = entry_is r there in rw (is, e.is) refl
    same_key r there passing p (inr none) = absurd none

    small_row : (row : Row) → Has edit.news row → ¬ IsOversized schema state_at row
    small_row row there (inl big) = let e = new_entry row there in big (subst (IsStorableRow 0) (sym e.is) (short_entry e.id value key short))
    small_row row there (inr (index, listed, owned, big)) =
        let e = new_entry row there in
        elim (subst (λ (all : List Index). Has all index) indexes_are listed) [
          | inl is ↦ absurd (omega (arith, owned, ap (λ (i : Index). i.table) is))
          | inr (inl is) ↦ big (subst (λ (i : Index). IsStorable (index_reals 0 i.columns) (entry_of i.columns row)) (sym is) (subst (λ (r : Row). IsStorable 0 (entry_of (1 ∷ []) r)) (sym e.is) (short_key e.id key short)))
          | inr (inr none) ↦ none
        ]

    set_passes : Passes schema db edit
    set_passes = record {
      typed = test_from _ edit.news (λ n there. rw (new_entry n there).is refl);
      present = test_from _ edit.news (λ n there. rw (new_entry n there).is refl);
      checked = test_from _ edit.news (λ n there. refl);
      fresh = fresh_after db state_at P f rows has.entries_rowids shown;
      unique = (unique_before.0, (unique_before.1.0, (all_from _ (edited db edit) (λ n there. and_from _ _ (ap not (apart_after db state_at P f rows has.entries_rowids shown plain (1 ∷ []) same_key apart n there)) refl), tt)));
      keyed = test_from _ edit.news (λ n there. rw (new_entry n there).is refl);
      fit = test_from _ edit.news (λ n there. let e = new_entry n there in rw e.is (lt-ltb e.id (2 ^ 63) (omega (arith, e.fits))));
      referred = refers_to_none _ _;
      small = small_row;
    }

  set_query_goes : NeverStops (Queried old.step_limit (record { schema = schema; trees = db }) (alone set_query) params)
  set_query_goes None none = none
  set_query_goes (Some e) (inl mistyped) = true≢false mistyped.1
  set_query_goes (Some e) (inr (inl (is, inl grouped))) = grouped
  set_query_goes (Some e) (inr (inl (is, inr folded))) = (any_has _ _ folded).2
  set_query_goes (Some e) (inr (inr limited)) = true≢false (sym (rw unlimited at limited.1))

  abbrev task : Task
  task = record { limit = old.step_limit; keys = Enforced; schema = schema; table = state_at; params = params }

  set_update_goes : NeverStops (Updates task (alone set_query) params db)
  set_update_goes stop (inl h) = set_query_goes h.0 h.1
  set_update_goes stop (inr (rows, answered, inl refused)) =
      let shown = scan_rows 3 set_query.filter set_query.project [] _ params rows (answered.answer Null) in edit_goes schema db (edit rows shown) (set_passes rows shown) refl refused.0 refused.1
  set_update_goes stop (inr (rows, answered, inr went)) = gives_goes _ stop went.2

  set_goes : ¬ Refuses old params (statement_of set_text (understood schema set_text)) (Update 2 (alone set_query))
  set_goes (stop, does) =
      let d = subst (λ k. Does old.step_limit (mode_of old) params (record old.now { schema = k }) (statement_of set_text (understood schema set_text)) None (Update 2 (alone set_query)) (Err stop)) has.schema_is does in
      then_goes (Updates task (alone set_query) params db) (Concludes task (mode_of old) None) set_update_goes (λ w wrote. concludes_goes task refl (mode_of old) w) stop d

  -- It fails where the device does, or memory is wanting.
  pub set_caused : (new : State) (e : Error) → e ≢ SqliteFailure OutOfMemory → IsTrue old.is_open → Executes set_text params old new (Err e) → MoreFaults old.faults new.faults
  set_caused new e other is_open ran = elim (fails_as set_text params old new schema has.schema_is (Update 2 (alone set_query)) set_is set_plain set_fits tt e other is_open ran) [ inl more ↦ more | inr refused ↦ absurd (set_goes refused) ]
