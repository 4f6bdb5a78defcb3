-- What the INSERT of a configuration does.
use Rattle.std.proofs.Common.{◌≡◌, ℕ, pos, [], ◌∷◌, ◌++◌, map, None, Ok, refl, sym, ap, subst, ◌∙◌, arith}
use Rattle.std.specs.List.Sorted.{IsPermutation}
use Rattle.std.proofs.lemmas.List.Sorted.{IsPermutation-cons, IsPermutation-trans}
use Rattle.sqlite.specs.declared.types.Value.TheVariants.{Int, Text}
use Rattle.sqlite.specs.Order.{Row}
use Rattle.sqlite.specs.Table.{Table}
use Rattle.sqlite.specs.Source.TheVariants.{Values}
use Rattle.sqlite.specs.Command.TheVariants.{Insert}
use Rattle.sqlite.specs.Edit.{Edit, edit_of, edited}
use Rattle.sqlite.specs.Rowids.TheVariants.{Chosen}
use Rattle.sqlite.specs.Does.{Tally, Does}
use Rattle.sqlite.specs.Rows.{Written}
use Rattle.sqlite.specs.Tree.{Trees}
use Rattle.sqlite.specs.Effect.{Database}
use Rattle.sqlite.specs.State.{State, mode_of, Writes}
use Rattle.sqlite.specs.Listing.{understood}
use Rattle.sqlite.proofs.Callers.{statement_of, one_step}
use Rattle.sqlite_tables.specs.Format.{schema, config_table}
use Rattle.sqlite_tables.specs.Tables.{HasRowids, ConfigRow, Contents, Holds, Lists, span_cells, config_with_rowid, entry_cells}
use Rattle.sqlite_tables.specs.Steps.{with_config}
use Rattle.sqlite_tables.proofs.Texts.{config_insert_text, config_terms}
use Rattle.sqlite_tables.proofs.Insert.{goes, same_value, cast_null, cast_int}
use Rattle.sqlite_tables.proofs.Rowids.{rowids_edit}
use Rattle.sqlite_tables.proofs.Lists.{put_all_fresh}
use Rattle.sqlite_tables.specs.Numbered.{IsNumbered, AreNumberedTo}
use Rattle.std.specs.List.{AllByRecursion}
use Rattle.std.specs.Prelude.{◌≤◌, ◌^◌, ◌-◌}

abbrev pub config_params : ConfigRow → Row
config_params c = Int (pos c.rev) ∷ Text c.text ∷ []

abbrev config_table_at : Table
config_table_at = record config_table { tree = 2 }

pub inserts_config : (old new : State) (c : ConfigRow) (count : ℕ) (h : Contents) → Holds old.now h
    → Writes old new None (Insert 1 (Values config_terms 3)) (statement_of config_insert_text (understood schema config_insert_text)) (config_params c) count → Holds new.now (with_config c h) × ((n : ℕ) → 0 ≤ n → AreNumberedTo n old.now.trees → AreNumberedTo n new.now.trees)
inserts_config old new c count h holds w =
    let params = config_params c in
    let db = old.now.trees in
    let command = Insert 1 (Values config_terms 3) in
    let text = statement_of config_insert_text (understood schema config_insert_text) in
    let done = goes (subst (λ k. Does old.step_limit (mode_of old) params (record old.now { schema = k }) text None command (Ok (w.tally, new.now))) holds.schema_is w.changed) in
    let now = ap (λ (p : Tally × Database). p.1) (same_value (goes (goes done.2).2).2) in
    let given = goes done.1 in
    let written = goes (goes given.2).2 in
    let counted = goes written.2 in
    let trees : done.0.trees ≡ written.0 = ap (λ (it : Written). it.trees) (same_value counted.2) ∙ same_value counted.1 in
    let edit : Edit = edit_of db config_table_at [] Chosen 0 given.0 in
    let did = one_step schema _ db written.0 edit refl written.1 in
    let news : edit.news ≡ config_with_rowid c ∷ [] = ap (λ all. (edit_of db config_table_at [] Chosen 0 all).news) given.1.1 ∙ rw (cast_null, cast_int (pos c.rev)) in
    let put : IsPermutation (edit.news ++ db 2) (edited db edit) = put_all_fresh edit.news (db 2) did.fresh in
    let tree : new.now.trees 2 ≡ edited db edit = ap (λ (d : Database). d.trees 2) now ∙ ap (λ (t : Trees). t 2) trees ∙ did.rows in
    let apart : (t : ℕ) → written.0 t ≡ db t → new.now.trees t ≡ db t = λ t same. ap (λ (d : Database). d.trees t) now ∙ ap (λ (all : Trees). all t) trees ∙ same in
    let row_same : new.now.trees 0 ≡ db 0 = apart 0 (did.tables.0 (λ e. absurd (omega (arith, e)))) in
    let entry_same : new.now.trees 3 ≡ db 3 = apart 3 (did.tables.1.1.0 (λ e. absurd (omega (arith, e)))) in (
      record {
        schema_is = ap (λ (d : Database). d.schema) now;
        spans = subst (λ rows. Lists rows (map span_cells h.spans)) (sym row_same) holds.spans;
        configs = subst (IsPermutation (config_with_rowid c ∷ map config_with_rowid h.configs)) (sym tree)
            (IsPermutation-trans _ (config_with_rowid c ∷ db 2) _ (IsPermutation-cons (config_with_rowid c) _ _ holds.configs) (subst (λ n. IsPermutation (n ++ db 2) (edited db edit)) news put));
        entries = subst (λ rows. Lists rows (map entry_cells h.entries)) (sym entry_same) holds.entries;
        spans_rowids = subst HasRowids (sym row_same) holds.spans_rowids;
        configs_rowids = subst HasRowids (sym tree) (rowids_edit db edit did.keyed did.fresh holds.configs_rowids);
        entries_rowids = subst HasRowids (sym entry_same) holds.entries_rowids;
      },
      λ n up was. record {
        spans = subst (AllByRecursion (IsNumbered n)) (sym row_same) was.spans;
        entries = subst (AllByRecursion (IsNumbered (2 ^ 63 - 1))) (sym entry_same) was.entries;
      },
    )
