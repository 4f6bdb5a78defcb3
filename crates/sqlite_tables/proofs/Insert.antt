-- What the INSERT of a span does.
use Rattle.std.proofs.Common.{◌≡◌, ◌⊎◌, inl, inr, ℕ, pos, [], ◌∷◌, ◌++◌, map, drop, None, Ok, Err, Result, refl, sym, ap, subst, ◌∙◌, arith}
use Rattle.std.specs.List.Sorted.{IsPermutation}
use Rattle.std.proofs.lemmas.List.Sorted.{IsPermutation-cons, IsPermutation-trans, IsPermutation-map}
use Rattle.sqlite.specs.declared.types.Value.TheVariants.{Int, Text}
use Rattle.sqlite.specs.Order.{Row}
use Rattle.sqlite.specs.Source.TheVariants.{Values}
use Rattle.sqlite.specs.Command.TheVariants.{Insert}
use Rattle.sqlite.specs.Edit.{Edit, edit_of, edited}
use Rattle.sqlite.specs.Rowids.TheVariants.{Chosen}
use Rattle.sqlite.specs.Does.{Tally, Does}
use Rattle.sqlite.specs.Rows.{Written}
use Rattle.sqlite.specs.Tree.{Trees}
use Rattle.sqlite.specs.Effect.{Database}
use Rattle.sqlite.specs.State.{State, mode_of, Writes}
use Rattle.sqlite.specs.Listing.{understood}
use Rattle.sqlite.proofs.Callers.{statement_of, one_step}
use Rattle.sqlite_tables.specs.Format.{schema, row_table}
use Rattle.sqlite_tables.specs.Tables.{HasRowids, Span, Contents, Holds, Lists, span_cells, config_with_rowid, entry_cells}
use Rattle.sqlite_tables.proofs.Texts.{insert_text, insert_terms}
use Rattle.sqlite_tables.proofs.Rowids.{rowids_edit}
use Rattle.sqlite_tables.proofs.Lists.{put_all_fresh}
pub use Rattle.sqlite_tables.proofs.Cells.{cast_null, cast_int}
use Rattle.sqlite_tables.proofs.Numbering.{all_edited}
use Rattle.sqlite_tables.specs.Numbered.{IsNumbered, AreNumberedTo}
use Rattle.std.specs.List.{AllByRecursion}
use Rattle.std.specs.Prelude.{◌≤◌, ◌^◌, ◌-◌}

-- a part that gave a value did not stop on the way
pub goes : {B E R : Type 0} {b : B} {Stops : E → Type 0} → ((stop : E) × Stops stop × (Ok b ≡ Err stop)) ⊎ R → R
goes (inl stopped) = absurd (let e = stopped.2 in cc)
goes (inr on) = on

pub same_value : {B E : Type 0} {a b : B} → ◌≡◌ {A = Result B E} (Ok a) (Ok b) → a ≡ b
same_value e = cc

abbrev pub insert_params : ℕ → Span → Row
insert_params id s = Int (pos id) ∷ Text s.namespace ∷ Text s.object ∷ Text s.relation ∷ Text s.subject ∷ Int (pos s.added) ∷ []

abbrev pub open_span : Span → Span
open_span s = record s { removed = 0 }

pub inserts : (old new : State) (id : ℕ) (s : Span) (count : ℕ) (h : Contents) → Holds old.now h
    → Writes old new None (Insert 0 (Values insert_terms 7)) (statement_of insert_text (understood schema insert_text)) (insert_params id s) count
    → Holds new.now (record h { spans = open_span s ∷ h.spans }) × ((n : ℕ) → id ≤ n → AreNumberedTo n old.now.trees → AreNumberedTo n new.now.trees)
inserts old new id s count h holds w =
    let params = insert_params id s in
    let db = old.now.trees in
    let command = Insert 0 (Values insert_terms 7) in
    let text = statement_of insert_text (understood schema insert_text) in
    let done = goes (subst (λ k. Does old.step_limit (mode_of old) params (record old.now { schema = k }) text None command (Ok (w.tally, new.now))) holds.schema_is w.changed) in
    let now = ap (λ (p : Tally × Database). p.1) (same_value (goes (goes done.2).2).2) in
    let given = goes done.1 in
    let written = goes (goes given.2).2 in
    let counted = goes written.2 in
    let trees : done.0.trees ≡ written.0 = ap (λ (it : Written). it.trees) (same_value counted.2) ∙ same_value counted.1 in
    let edit : Edit = edit_of db row_table [] Chosen 0 given.0 in
    let did = one_step schema _ db written.0 edit refl written.1 in
    let cells = span_cells (open_span s) in
    let row : Row = Int (pos id) ∷ cells in
    let news : edit.news ≡ row ∷ [] = ap (λ all. (edit_of db row_table [] Chosen 0 all).news) given.1.1 ∙ rw (cast_int (pos id), cast_int (pos s.added), cast_int (pos 0)) in
    let put : IsPermutation (edit.news ++ db 0) (edited db edit) = put_all_fresh edit.news (db 0) did.fresh in
    let tree : new.now.trees 0 ≡ edited db edit = ap (λ (d : Database). d.trees 0) now ∙ ap (λ (t : Trees). t 0) trees ∙ did.rows in
    let apart : (t : ℕ) → written.0 t ≡ db t → new.now.trees t ≡ db t = λ t same. ap (λ (d : Database). d.trees t) now ∙ ap (λ (all : Trees). all t) trees ∙ same in (
      record {
        schema_is = ap (λ (d : Database). d.schema) now;
        spans = subst (λ rows. Lists rows (cells ∷ map span_cells h.spans)) (sym tree)
            (IsPermutation-trans _ (cells ∷ map (drop 1) (db 0)) _ (IsPermutation-cons cells _ _ holds.spans)
            (subst (λ n. IsPermutation (map (drop 1) (n ++ db 0)) (map (drop 1) (edited db edit))) news (IsPermutation-map (drop 1) _ _ put)));
        configs = subst (IsPermutation (map config_with_rowid h.configs)) (sym (apart 2 (did.tables.1.0 (λ e. absurd (omega (arith, e)))))) holds.configs;
        configs_rowids = subst HasRowids (sym (apart 2 (did.tables.1.0 (λ e. absurd (omega (arith, e)))))) holds.configs_rowids;
        entries = subst (λ rows. Lists rows (map entry_cells h.entries)) (sym (apart 3 (did.tables.1.1.0 (λ e. absurd (omega (arith, e)))))) holds.entries;
        spans_rowids = subst HasRowids (sym tree) (rowids_edit db edit did.keyed did.fresh holds.spans_rowids);
        entries_rowids = subst HasRowids (sym (apart 3 (did.tables.1.1.0 (λ e. absurd (omega (arith, e)))))) holds.entries_rowids;
      },
      λ n up was. record {
        spans = subst (AllByRecursion (IsNumbered n)) (sym tree) (all_edited (IsNumbered n) db edit did.fresh (subst (AllByRecursion (IsNumbered n)) (sym news) ((id, refl, up), tt)) was.spans);
        entries = subst (AllByRecursion (IsNumbered (2 ^ 63 - 1))) (sym (apart 3 (did.tables.1.1.0 (λ e. absurd (omega (arith, e)))))) was.entries;
      },
    )
