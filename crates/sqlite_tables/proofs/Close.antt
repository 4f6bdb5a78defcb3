-- What the UPDATE that closes a span does.
use Rattle.std.proofs.Common.{◌≡◌, ℕ, pos, Bool, true, false, if◌then◌else◌, ◌&&◌, List, [], ◌∷◌, map, drop, None, Ok, refl, sym, ap, subst, ◌∙◌, arith}
use Rattle.std.specs.List.{list_all}
use Rattle.std.specs.List.Sorted.{IsPermutation}
use Rattle.std.specs.Prelude.{◌==◌}
use Rattle.std.specs.Str.{bytes_eq}
use Rattle.sqlite.specs.declared.types.Value.TheVariants.{Null, Int, Text}
use Rattle.sqlite.specs.Order.{Row}
use Rattle.sqlite.specs.Term.{Term, col, eval_all, holds}
use Rattle.sqlite.specs.Command.TheVariants.{Update}
use Rattle.sqlite.specs.Edit.{Edit, edit_of, edited}
use Rattle.sqlite.specs.Cast.{cast_all}
use Rattle.sqlite.specs.Rowids.TheVariants.{Given}
use Rattle.sqlite.specs.Does.{Tally, Does}
use Rattle.sqlite.specs.Rows.{Written}
use Rattle.sqlite.specs.Tree.{Trees}
use Rattle.sqlite.specs.Effect.{Database}
use Rattle.sqlite.specs.State.{State, mode_of, Writes}
use Rattle.sqlite_rules.specs.Calls.{ids_of}
use Rattle.sqlite.specs.Listing.{understood}
use Rattle.sqlite.proofs.Callers.{statement_of, one_step}
use Rattle.sqlite_tables.specs.Format.{schema, row_table}
use Rattle.sqlite_tables.specs.Tables.{HasRowids, Span, Contents, Holds, Lists, span_cells, config_with_rowid, entry_cells, same_tuple, after_close}
use Rattle.sqlite_tables.specs.Steps.{with_closed}
use Rattle.sqlite_tables.proofs.Texts.{close_text, close_query, alone}
use Rattle.sqlite_tables.proofs.Insert.{goes, same_value, cast_int}
use Rattle.sqlite_tables.proofs.Scan.{scan_rows, text_test, zero_test}
use Rattle.sqlite_tables.proofs.Update.{updates, rewrites}
use Rattle.sqlite_tables.proofs.Numbering.{updates_numbered}
use Rattle.sqlite_tables.specs.Numbered.{IsNumbered, AreNumberedTo}
use Rattle.std.specs.List.{AllByRecursion}
use Rattle.std.specs.Prelude.{◌≤◌, ◌^◌, ◌-◌}
use Rattle.sqlite_tables.proofs.Rowids.{rowids_edit}

abbrev pub close_params : Span → ℕ → Row
close_params s rev = Text s.namespace ∷ Text s.object ∷ Text s.relation ∷ Text s.subject ∷ Int (pos rev) ∷ []

abbrev passes : Span → ℕ → Row → Bool
passes s rev r = list_all (holds (close_params s rev ∷ r ∷ [])) close_query.filter

abbrev fields : List Term
fields = col 1 1 ∷ col 1 2 ∷ col 1 3 ∷ col 1 4 ∷ col 1 5 ∷ col 0 4 ∷ []

abbrev row_after : Span → ℕ → Row → Row
row_after s rev r = eval_all fields (close_params s rev ∷ r ∷ [])

abbrev row_then : Span → ℕ → Row → Row
row_then s rev r = if passes s rev r then cast_all row_table.columns (row_after s rev r) else drop 1 r

-- the statement reads no rowid
row_then_reads : (s : Span) (rev : ℕ) (r : Row) → row_then s rev r ≡ row_then s rev (Null ∷ drop 1 r)
row_then_reads s rev [] = refl
row_then_reads s rev (id ∷ cells) = refl

four : (a b c d e : Bool) → (a && (b && (c && (d && (e && true))))) ≡ ((a && (b && (c && d))) && e)
four true true true true true = refl
four true true true true false = refl
four true true true false e = refl
four true true false d e = refl
four true false c d e = refl
four false b c d e = refl

passes_as : (s : Span) (rev : ℕ) (x : Span) → passes s rev (Null ∷ span_cells x) ≡ (same_tuple x s && (x.removed == 0))
passes_as s rev x =
    rw (text_test x.namespace s.namespace, text_test x.object s.object, text_test x.relation s.relation, text_test x.subject s.subject, zero_test x.removed)
    (four (bytes_eq x.namespace s.namespace) (bytes_eq x.object s.object) (bytes_eq x.relation s.relation) (bytes_eq x.subject s.subject) (x.removed == 0))

closes_span : (s : Span) (rev : ℕ) (x : Span) → row_then s rev (Null ∷ span_cells x) ≡ span_cells (after_close s rev x)
closes_span s rev x =
    ap (λ (b : Bool). if b then cast_all row_table.columns (row_after s rev (Null ∷ span_cells x)) else span_cells x) (passes_as s rev x) ∙ go (same_tuple x s && (x.removed == 0))
  where
    go : (b : Bool) → (if b then cast_all row_table.columns (row_after s rev (Null ∷ span_cells x)) else span_cells x) ≡ span_cells (if b then record x { removed = rev } else x)
    go true = rw (cast_int (pos x.added), cast_int (pos rev))
    go false = refl

pub closes : (old new : State) (s : Span) (rev count : ℕ) (h : Contents) → Holds old.now h → Writes old new None (Update 0 (alone close_query)) (statement_of close_text (understood schema close_text)) (close_params s rev) count
    → Holds new.now (with_closed s rev h) × ((n : ℕ) → 0 ≤ n → AreNumberedTo n old.now.trees → AreNumberedTo n new.now.trees)
closes old new s rev count h holds w =
    let params = close_params s rev in
    let db = old.now.trees in
    let command = Update 0 (alone close_query) in
    let text = statement_of close_text (understood schema close_text) in
    let done = goes (subst (λ k. Does old.step_limit (mode_of old) params (record old.now { schema = k }) text None command (Ok (w.tally, new.now))) holds.schema_is w.changed) in
    let now = ap (λ (p : Tally × Database). p.1) (same_value (goes (goes done.2).2).2) in
    let given = goes done.1 in
    let wrote = goes given.2 in
    let trees : done.0.trees ≡ wrote.0 = ap (λ (it : Written). it.trees) (same_value wrote.2) in
    let edit : Edit = edit_of db row_table (ids_of given.0) Given 1 given.0 in
    let did = one_step schema _ db wrote.0 edit refl wrote.1 in
    let shown = scan_rows 0 close_query.filter close_query.project [] _ params given.0 (given.1.answer Null) in
    let tree : new.now.trees 0 ≡ edited db edit = ap (λ (d : Database). d.trees 0) now ∙ ap (λ (t : Trees). t 0) trees ∙ did.rows in
    let apart : (t : ℕ) → wrote.0 t ≡ db t → new.now.trees t ≡ db t = λ t same. ap (λ (d : Database). d.trees t) now ∙ ap (λ (all : Trees). all t) trees ∙ same in
    let wrote_rows = updates db row_table (passes s rev) (row_after s rev) given.0 holds.spans_rowids shown did.fresh in (
      record {
        schema_is = ap (λ (d : Database). d.schema) now;
        spans = subst (λ rows. Lists rows (map span_cells (map (after_close s rev) h.spans))) (sym tree)
            (rewrites span_cells (after_close s rev) (drop 1) (λ cells. row_then s rev (Null ∷ cells)) (db 0) (row_then s rev) (edited db edit) h.spans (row_then_reads s rev) (closes_span s rev) holds.spans wrote_rows);
        configs = subst (IsPermutation (map config_with_rowid h.configs)) (sym (apart 2 (did.tables.1.0 (λ e. absurd (omega (arith, e)))))) holds.configs;
        configs_rowids = subst HasRowids (sym (apart 2 (did.tables.1.0 (λ e. absurd (omega (arith, e)))))) holds.configs_rowids;
        entries = subst (λ rows. Lists rows (map entry_cells h.entries)) (sym (apart 3 (did.tables.1.1.0 (λ e. absurd (omega (arith, e)))))) holds.entries;
        spans_rowids = subst HasRowids (sym tree) (rowids_edit db edit did.keyed did.fresh holds.spans_rowids);
        entries_rowids = subst HasRowids (sym (apart 3 (did.tables.1.1.0 (λ e. absurd (omega (arith, e)))))) holds.entries_rowids;
      },
      λ n up was. record {
        spans = subst (AllByRecursion (IsNumbered n)) (sym tree) (updates_numbered n db row_table (passes s rev) (row_after s rev) given.0 shown did.fresh was.spans);
        entries = subst (AllByRecursion (IsNumbered (2 ^ 63 - 1))) (sym (apart 3 (did.tables.1.1.0 (λ e. absurd (omega (arith, e)))))) was.entries;
      },
    )
