-- What the UPDATE of a state value does.
use Rattle.std.proofs.Common.{◌≡◌, ℕ, pos, Bool, true, false, if◌then◌else◌, ◌&&◌, List, [], ◌∷◌, map, drop, None, Ok, refl, sym, ap, subst, ◌∙◌, arith}
use Rattle.std.specs.List.{list_all}
use Rattle.std.specs.List.Sorted.{IsPermutation}
use Rattle.std.specs.Str.{bytes_eq}
use Rattle.sqlite.specs.declared.types.Value.TheVariants.{Null, Int, Text}
use Rattle.sqlite.specs.Order.{Row}
use Rattle.sqlite.specs.Term.{Term, col, eval_all, holds}
use Rattle.sqlite.specs.Command.TheVariants.{Update}
use Rattle.sqlite.specs.Edit.{Edit, edit_of, edited}
use Rattle.sqlite.specs.Cast.{cast_all}
use Rattle.sqlite.specs.Rowids.TheVariants.{Given}
use Rattle.sqlite.specs.Does.{Tally, Does}
use Rattle.sqlite.specs.Rows.{Written}
use Rattle.sqlite.specs.Table.{Table}
use Rattle.sqlite.specs.Tree.{Trees}
use Rattle.sqlite.specs.Effect.{Database}
use Rattle.sqlite.specs.State.{State, mode_of, Writes}
use Rattle.sqlite_rules.specs.Calls.{ids_of}
use Rattle.sqlite.specs.Listing.{understood}
use Rattle.sqlite.proofs.Callers.{statement_of, one_step}
use Rattle.sqlite_tables.specs.Format.{schema, state_table}
use Rattle.sqlite_tables.specs.Tables.{HasRowids, Contents, Holds, Lists, span_cells, config_with_rowid, entry_cells, Entry, with_value}
use Rattle.sqlite_tables.specs.Steps.{with_entry}
use Rattle.sqlite_tables.proofs.Texts.{set_text, set_query, alone}
use Rattle.sqlite_tables.proofs.Insert.{goes, same_value, cast_int}
use Rattle.sqlite_tables.proofs.Scan.{scan_rows, text_test}
use Rattle.sqlite_tables.proofs.Update.{updates, rewrites}
use Rattle.sqlite_tables.proofs.Numbering.{updates_numbered}
use Rattle.sqlite_tables.specs.Numbered.{IsNumbered, AreNumberedTo}
use Rattle.std.specs.List.{AllByRecursion}
use Rattle.std.specs.Prelude.{◌≤◌, ◌^◌, ◌-◌}
use Rattle.sqlite_tables.proofs.Rowids.{rowids_edit}

abbrev state_at : Table
state_at = record state_table { tree = 3 }

abbrev pub set_params : List ℕ → ℕ → Row
set_params key value = Text key ∷ Int (pos value) ∷ []

abbrev passes : List ℕ → ℕ → Row → Bool
passes key value r = list_all (holds (set_params key value ∷ r ∷ [])) set_query.filter

abbrev fields : List Term
fields = col 1 1 ∷ col 0 1 ∷ []

abbrev row_after : List ℕ → ℕ → Row → Row
row_after key value r = eval_all fields (set_params key value ∷ r ∷ [])

abbrev row_then : List ℕ → ℕ → Row → Row
row_then key value r = if passes key value r then cast_all state_table.columns (row_after key value r) else drop 1 r

row_then_reads : (key : List ℕ) (value : ℕ) (r : Row) → row_then key value r ≡ row_then key value (Null ∷ drop 1 r)
row_then_reads key value [] = refl
row_then_reads key value (id ∷ cells) = refl

single : (b : Bool) → (b && true) ≡ b
single true = refl
single false = refl

passes_as : (key : List ℕ) (value : ℕ) (e : Entry) → passes key value (Null ∷ entry_cells e) ≡ bytes_eq e.key key
passes_as key value e = rw (text_test e.key key) (single (bytes_eq e.key key))

sets_entry : (key : List ℕ) (value : ℕ) (e : Entry) → row_then key value (Null ∷ entry_cells e) ≡ entry_cells (with_value key value e)
sets_entry key value e =
    ap (λ (b : Bool). if b then cast_all state_table.columns (row_after key value (Null ∷ entry_cells e)) else entry_cells e) (passes_as key value e) ∙ go (bytes_eq e.key key)
  where
    go : (b : Bool) → (if b then cast_all state_table.columns (row_after key value (Null ∷ entry_cells e)) else entry_cells e) ≡ entry_cells (if b then record e { value = value } else e)
    go true = rw (cast_int (pos value))
    go false = refl

pub sets : (old new : State) (key : List ℕ) (value count : ℕ) (h : Contents) → Holds old.now h → Writes old new None (Update 2 (alone set_query)) (statement_of set_text (understood schema set_text)) (set_params key value) count
    → Holds new.now (with_entry key value h) × ((n : ℕ) → 0 ≤ n → AreNumberedTo n old.now.trees → AreNumberedTo n new.now.trees)
sets old new key value count h holds w =
    let params = set_params key value in
    let db = old.now.trees in
    let command = Update 2 (alone set_query) in
    let text = statement_of set_text (understood schema set_text) in
    let done = goes (subst (λ k. Does old.step_limit (mode_of old) params (record old.now { schema = k }) text None command (Ok (w.tally, new.now))) holds.schema_is w.changed) in
    let now = ap (λ (p : Tally × Database). p.1) (same_value (goes (goes done.2).2).2) in
    let given = goes done.1 in
    let wrote = goes given.2 in
    let trees : done.0.trees ≡ wrote.0 = ap (λ (it : Written). it.trees) (same_value wrote.2) in
    let edit : Edit = edit_of db state_at (ids_of given.0) Given 1 given.0 in
    let did = one_step schema _ db wrote.0 edit refl wrote.1 in
    let shown = scan_rows 3 set_query.filter set_query.project [] _ params given.0 (given.1.answer Null) in
    let tree : new.now.trees 3 ≡ edited db edit = ap (λ (d : Database). d.trees 3) now ∙ ap (λ (t : Trees). t 3) trees ∙ did.rows in
    let apart : (t : ℕ) → wrote.0 t ≡ db t → new.now.trees t ≡ db t = λ t same. ap (λ (d : Database). d.trees t) now ∙ ap (λ (all : Trees). all t) trees ∙ same in
    let row_same : new.now.trees 0 ≡ db 0 = apart 0 (did.tables.0 (λ e. absurd (omega (arith, e)))) in
    let wrote_rows = updates db state_at (passes key value) (row_after key value) given.0 holds.entries_rowids shown did.fresh in (
      record {
        schema_is = ap (λ (d : Database). d.schema) now;
        spans = subst (λ rows. Lists rows (map span_cells h.spans)) (sym row_same) holds.spans;
        configs = subst (IsPermutation (map config_with_rowid h.configs)) (sym (apart 2 (did.tables.1.0 (λ e. absurd (omega (arith, e)))))) holds.configs;
        configs_rowids = subst HasRowids (sym (apart 2 (did.tables.1.0 (λ e. absurd (omega (arith, e)))))) holds.configs_rowids;
        entries = subst (λ rows. Lists rows (map entry_cells (map (with_value key value) h.entries))) (sym tree)
            (rewrites entry_cells (with_value key value) (drop 1) (λ cells. row_then key value (Null ∷ cells)) (db 3) (row_then key value) (edited db edit) h.entries (row_then_reads key value) (sets_entry key value) holds.entries wrote_rows);
        spans_rowids = subst HasRowids (sym row_same) holds.spans_rowids;
        entries_rowids = subst HasRowids (sym tree) (rowids_edit db edit did.keyed did.fresh holds.entries_rowids);
      },
      λ n up was. record {
        spans = subst (AllByRecursion (IsNumbered n)) (sym row_same) was.spans;
        entries = subst (AllByRecursion (IsNumbered (2 ^ 63 - 1))) (sym tree) (updates_numbered (2 ^ 63 - 1) db state_at (passes key value) (row_after key value) given.0 shown did.fresh was.entries);
      },
    )
