-- Why the first values of the state are refused.
use Rattle.std.proofs.Common.{◌≡◌, ◌≢◌, ◌<◌, ◌≤◌, ◌+◌, ◌/◌, ◌%◌, ◌^◌, inl, inr, ℕ, zero, suc, pos, true, false, List, [], ◌∷◌, codes, length, map, drop, sum_by, Err, None, Some, Option, IsSome, IsTrue, refl, sym, ap, subst, ◌∙◌, arith, true≢false}
use Rattle.std.specs.List.{AllByRecursion, list_all}
use Rattle.std.specs.Float.{NotNan}
use Rattle.std.proofs.lemmas.Nat.Bits.{bit_at-zero}
use Rattle.sqlite_disk.specs.Disk.{MoreFaults}
use Rattle.sqlite_trees.specs.View.{IsStorable}
use Rattle.sqlite_schema.specs.declared.schema.Keys.TheVariants.{Enforced}
use Rattle.sqlite_schema.specs.Rules.{Keeps, passes}
use Rattle.sqlite_schema.specs.declared.schema.Constraint.TheVariants.{Unique}
use Rattle.sqlite_rules.specs.Lists.{Has}
use Rattle.sqlite_rules.proofs.ListLemmas.{all_has}
use Rattle.sqlite_rules.specs.Edit.{IsOversized}
use Rattle.sqlite_value.specs.Order.{value_cmp, number, bytes}
use Rattle.sqlite_value.specs.Keys.{plain, first_key}
use Rattle.sqlite_value.specs.declared.value.Value.{Value}
use Rattle.sqlite.specs.declared.types.Value.TheVariants.{Null, Int, Text}
use Rattle.sqlite.specs.Order.{Row}
use Rattle.sqlite.specs.Ops.{unary, binary}
use Rattle.sqlite.specs.Table.{Table}
use Rattle.sqlite.specs.Tree.{Trees, with_tree}
use Rattle.sqlite.specs.Cast.{cast_row}
use Rattle.sqlite.specs.Rowids.TheVariants.{Chosen}
use Rattle.sqlite.specs.Edit.{Edit, edit_of, edited, numbered}
use Rattle.sqlite.specs.Source.TheVariants.{Values}
use Rattle.sqlite.specs.Command.TheVariants.{Insert}
use Rattle.sqlite.specs.declared.run.Mode.{Mode}
use Rattle.sqlite.specs.Effect.{Database, value_rows}
use Rattle.sqlite.specs.Rows.{Task, Sourced, Inserts, Edited}
use Rattle.sqlite.specs.Does.{Concludes, Does}
use Rattle.sqlite.specs.State.{State, Executes, mode_of}
use Rattle.sqlite.specs.Listing.{understood}
use Rattle.sqlite.specs.declared.error.Error.{Error}
use Rattle.sqlite.specs.declared.error.Error.TheVariants.{SqliteFailure}
use Rattle.sqlite.specs.declared.error.ErrorCode.TheVariants as code
use Rattle.sqlite_tied.specs.Compute.{everything}
use Rattle.sqlite.proofs.Callers.{statement_of}
use Rattle.sqlite_tables.specs.Format.{schema, row_table, config_table, state_table}
use Rattle.sqlite_tables.specs.Steps.{HasTables}
use Rattle.sqlite_tables.proofs.Texts.{init_text, init_terms, init_is, init_plain}
use Rattle.sqlite_tables.proofs.CreateLemmas.{init_params}
use Rattle.sqlite_tables.proofs.Insert.{cast_null, cast_int}
use Rattle.sqlite_tables.proofs.Fixed.Causes.{Fits}
use Rattle.sqlite_tables.proofs.Fixed.Failing.{fails_as}
use Rattle.sqlite_tables.proofs.Fixed.Parts.{NeverStops, Passes, then_goes, gives_goes, edit_goes, concludes_goes}

abbrev state_at : Table
state_at = record state_table { tree = 3 }

-- ---- the rows

abbrev sources : ℕ → List Row
sources n =
    (Null ∷ Text (codes "floor") ∷ Int (pos 0) ∷ []) ∷ (Null ∷ Text (codes "format") ∷ Int (pos 1) ∷ []) ∷ (Null ∷ Text (codes "newest") ∷ Int (pos 0) ∷ [])
    ∷ (Null ∷ Text (codes "store") ∷ Int (pos n) ∷ []) ∷ []

abbrev values : ℕ → List Row
values n =
    (Int (pos 1) ∷ Text (codes "floor") ∷ Int (pos 0) ∷ []) ∷ (Int (pos 2) ∷ Text (codes "format") ∷ Int (pos 1) ∷ []) ∷ (Int (pos 3) ∷ Text (codes "newest") ∷ Int (pos 0) ∷ [])
    ∷ (Int (pos 4) ∷ Text (codes "store") ∷ Int (pos n) ∷ []) ∷ []

cast_sources : (n : ℕ) → map (λ s. cast_row state_at (drop 0 s)) (value_rows (init_params n) 3 4 init_terms) ≡ sources n
cast_sources n = rw (cast_null, cast_int (pos 0), cast_int (pos 1), cast_int (pos n)) refl

numbered_sources : (n : ℕ) → numbered Chosen [] (sources n) ≡ values n
unfolding value_cmp lib.Ieee.is_nan lib.Ieee.lt
numbered_sources n = refl

module _ (db : Trees) (none : db 3 ≡ []) (n : ℕ) where
  news_are : (edit_of db state_at [] Chosen 0 (value_rows (init_params n) 3 4 init_terms)).news ≡ values n
  news_are = ap (λ rows. numbered Chosen rows (map (λ s. cast_row state_at (drop 0 s)) (value_rows (init_params n) 3 4 init_terms))) none ∙ (ap (numbered Chosen []) (cast_sources n) ∙ numbered_sources n)

-- ---- they can be stored

in_bits : (c : ℕ) → 0 / 2 ^ c % 2 ≡ 1 → ⊥
in_bits c one = absurd (let none = bit_at-zero c in omega (arith, one, none))

-- a short row of texts and integers can be stored
pub is_storable : (row : Row) → 0 < length row → length row ≤ 2001 → AllByRecursion (λ v. NotNan (number v)) row → sum_by (λ v. 18 + length (bytes v)) row ≤ 10 ^ 9 → IsStorable 0 row
is_storable row some few numbers short =
    record { typed = λ c one. absurd (in_bits c one); columns = (some, few); numbers = λ k d low. at row k d numbers low; short = short }
  where
    at : (vs : Row) (k : ℕ) (d : Value) → AllByRecursion (λ v. NotNan (number v)) vs → k < length vs → NotNan (number (Rattle.std.specs.Prelude.slice_index_or vs k d))
    at [] k d all low = absurd (omega (arith, low))
    at (v ∷ vs) zero d all low = all.0
    at (v ∷ vs) (suc k) d all low = at vs k d all.1 (omega (arith, low))

not_oversized : (n : ℕ) (row : Row) → Has (values n) row → ¬ IsOversized schema state_at row
unfolding lib.Ieee.is_nan
not_oversized n row h big =
    let P : Row → Type 0 = λ r. IsStorable 0 r × (1 < length r) × IsStorable 0 (Rattle.sqlite_sql.specs.Catalog.entry_of (1 ∷ []) r) in
    let small : AllByRecursion P (values n) = ((is_storable _ (omega arith) (omega arith) (tt, (tt, (tt, tt))) (omega arith), omega arith, is_storable _ (omega arith) (omega arith) (tt, (tt, tt)) (omega arith)), ((is_storable _ (omega arith) (omega arith) (tt, (tt, (tt, tt))) (omega arith), omega arith, is_storable _ (omega arith) (omega arith) (tt, (tt, tt)) (omega arith)), ((is_storable _ (omega arith) (omega arith) (tt, (tt, (tt, tt))) (omega arith), omega arith, is_storable _ (omega arith) (omega arith) (tt, (tt, tt)) (omega arith)), ((is_storable _ (omega arith) (omega arith) (tt, (tt, (tt, tt))) (omega arith), omega arith, is_storable _ (omega arith) (omega arith) (tt, (tt, tt)) (omega arith)), tt)))) in
    let it = all_has P (values n) row small h in
    elim big [ inl whole ↦ whole (it.0, it.1) | inr entry ↦ by_index entry.0 entry.1 entry.2 entry.3 it.2 ]
  where
    by_index : (i : Rattle.sqlite_schema.specs.declared.schema.Index.Index) → Has schema.indexes i → i.table ≡ 3
        → ¬ IsStorable (Rattle.sqlite_schema.specs.Rules.index_reals 0 i.columns) (Rattle.sqlite_sql.specs.Catalog.entry_of i.columns row)
        → IsStorable 0 (Rattle.sqlite_sql.specs.Catalog.entry_of (1 ∷ []) row) → ⊥
    by_index i (inl first) of not_it it = absurd (let e : 0 ≡ 3 = sym (ap (λ (k : Rattle.sqlite_schema.specs.declared.schema.Index.Index). k.table) first) ∙ of in omega (arith, e))
    by_index i (inr (inl second)) of not_it it =
        subst (λ (k : Rattle.sqlite_schema.specs.declared.schema.Index.Index). ¬ IsStorable (Rattle.sqlite_schema.specs.Rules.index_reals 0 k.columns) (Rattle.sqlite_sql.specs.Catalog.entry_of k.columns row)) second not_it it
    by_index i (inr (inr none)) of not_it it = absurd none

-- ---- they pass

abbrev edit_with : List Row → Edit
edit_with news = record { table = state_at; gone = []; news = news }

abbrev first_edit : ℕ → Edit
first_edit n = edit_with (values n)

values_alone : (n : ℕ) → Rattle.sqlite.specs.Edit.put_all [] (values n) ≡ values n
unfolding value_cmp lib.Ieee.is_nan lib.Ieee.lt
values_alone n = refl

no_clash : (n : ℕ) → AllByRecursion (λ row. Rattle.sqlite_schema.specs.Rules.clashes plain (1 ∷ []) (values n) row ≡ false) (values n)
unfolding value_cmp binary first_key lib.Ieee.is_nan lib.Ieee.lt
no_clash n = (refl, (refl, (refl, (refl, tt))))

module _ (db : Database) (has : HasTables db) (n : ℕ) where
  rows_are : edited db.trees (first_edit n) ≡ values n
  rows_are = ap (λ rows. Rattle.sqlite.specs.Edit.put_all rows (values n)) has.state ∙ values_alone n

  abbrev after : Trees
  after = with_tree db.trees 3 (edited db.trees (first_edit n))

  keeps_unique : Keeps Unique schema after
  keeps_unique =
      let state_rows = no_clash n in
      let state : AllByRecursion (λ row. passes Unique schema after state_at row ≡ true) (edited db.trees (first_edit n)) =
      rw (rows_are, state_rows.0, state_rows.1.0, state_rows.1.1.0, state_rows.1.1.1.0) (refl, (refl, (refl, (refl, tt)))) in
      let spans = subst (AllByRecursion (λ row. passes Unique schema after row_table row ≡ true)) (sym has.row) tt in
      let configs = subst (AllByRecursion (λ row. passes Unique schema after (record config_table { tree = 2 }) row ≡ true)) (sym has.config) tt in
      (spans, (configs, (state, tt)))

  passing : Passes schema db.trees (first_edit n)
  unfolding value_cmp lib.Ieee.is_nan lib.Ieee.lt
  passing = record {
    typed = refl;
    present = refl;
    checked = refl;
    fresh = subst (λ rows. Rattle.sqlite.specs.Edit.are_fresh rows (values n) ≡ true) (sym has.state) refl;
    unique = keeps_unique;
    keyed = refl;
    fit = refl;
    referred = refl;
    small = not_oversized n;
  }

  first_goes : (rows : List Row) → rows ≡ value_rows (init_params n) 3 4 init_terms → NeverStops (Edited schema Enforced db.trees (edit_of db.trees state_at [] Chosen 0 rows))
  first_goes rows are =
      let same : first_edit n ≡ edit_of db.trees state_at [] Chosen 0 rows =
      ap (λ (news : List Row). edit_with news) (sym (news_are db.trees has.state n)) ∙ ap (edit_of db.trees state_at [] Chosen 0) (sym are) in
      subst (λ (e : Edit). NeverStops (Edited schema Enforced db.trees e)) same (edit_goes schema db.trees (first_edit n) passing refl)

-- ---- the statement

init_fits : (n : ℕ) → Fits (length (init_params n)) init_text (understood schema init_text)
unfolding understood everything
init_fits n = (omega arith, refl, refl)

module _ (limit : Option ℕ) (unlimited : limit ≡ None) (mode : Mode) (db : Database) (has : HasTables db) (n : ℕ) (keys : mode.keys ≡ Enforced) where
  abbrev task : Task
  task = record { limit = limit; keys = mode.keys; schema = schema; table = state_at; params = init_params n }

  source_goes : NeverStops (Sourced limit (record { schema = schema; trees = db.trees }) (init_params n) (Values init_terms 3))
  source_goes None h = h
  source_goes (Some e) (inl h) = true≢false h.1
  source_goes (Some e) (inr h) = true≢false (sym (subst IsSome unlimited h.1))

  inserts_go : NeverStops (Inserts task (Values init_terms 3) db.trees)
  inserts_go stop (inl h) = source_goes h.0 h.1
  inserts_go stop (inr (rows, given, inl counted)) = gives_goes _ counted.0 counted.1
  inserts_go stop (inr (rows, given, inr (counter, counted, inl refused))) =
      first_goes db has n rows given.1 refused.0 (subst (λ k. Edited schema k db.trees (edit_of db.trees state_at [] Chosen 0 rows) (Err refused.0)) keys refused.1)
  inserts_go stop (inr (rows, given, inr (counter, counted, inr (mid, went, inl over)))) = gives_goes _ over.0 over.1
  inserts_go stop (inr (rows, given, inr (counter, counted, inr (mid, went, inr done)))) = gives_goes _ stop done.2

  never_stops : (text : List ℕ) → NeverStops (Does limit mode (init_params n) (record { schema = schema; trees = db.trees }) text None (Insert 2 (Values init_terms 3)))
  never_stops text = then_goes (Inserts task (Values init_terms 3) db.trees) (Concludes task mode None) inserts_go (λ w written. concludes_goes task refl mode w)

pub init_fails : (old new : State) (n : ℕ) (e : Error) → e ≢ SqliteFailure code.OutOfMemory → IsTrue old.is_open → old.step_limit ≡ None → HasTables old.now → Executes init_text (init_params n) old new (Err e)
    → MoreFaults old.faults new.faults
init_fails old new n e other open_now unlimited has ran =
    elim (fails_as init_text (init_params n) old new schema has.schema_is (Insert 2 (Values init_terms 3)) init_is init_plain (init_fits n) tt e other open_now ran) [
      | inl more ↦ more
      | inr refused ↦ absurd (never_stops old.step_limit unlimited (mode_of old) old.now has n refl (statement_of init_text (understood schema init_text)) refused.0
          (subst (λ (k : Rattle.sqlite.specs.Schema.Schema). Does old.step_limit (mode_of old) (init_params n) (record old.now { schema = k }) (statement_of init_text (understood schema init_text)) None (Insert 2 (Values init_terms 3)) (Err refused.0)) has.schema_is refused.1))
    ]
