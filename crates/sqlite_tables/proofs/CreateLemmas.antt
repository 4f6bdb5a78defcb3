-- What the statements that create the tables do.
use Rattle.std.proofs.Common.{◌≡◌, ◌+◌, ℕ, pos, Bool, true, false, if◌then◌else◌, List, [], ◌∷◌, ◌++◌, length, map, drop, None, Ok, refl, sym, ap, subst, ◌∙◌, arith}
use Rattle.std.specs.List.Sorted.{IsPermutation}
use Rattle.std.proofs.lemmas.List.Sorted.{IsPermutation-refl, IsPermutation-map}
use Rattle.std.proofs.Common.{append-nil}
use Rattle.sqlite.specs.declared.types.Value.TheVariants.{Null, Int}
use Rattle.sqlite.specs.Order.{Row}
use Rattle.sqlite.specs.Table.{Table}
use Rattle.sqlite.specs.Schema.{Schema}
use Rattle.sqlite.specs.Source.TheVariants.{Values}
use Rattle.sqlite.specs.Command.TheVariants.{Insert, CreateTable}
use Rattle.sqlite.specs.Compile.{table_defined_by}
use Rattle.sqlite.specs.Change.{created, next_tree, KeepsRows}
use Rattle.sqlite.specs.Edit.{Edit, edit_of, edited, numbered, with_rowid, is_chosen}
use Rattle.sqlite.specs.Rowids.{Rowids}
use Rattle.sqlite.specs.Rowids.TheVariants.{Chosen}
use Rattle.sqlite.specs.Does.{Tally, Does, lacks_sequence}
use Rattle.sqlite.specs.Rows.{Written}
use Rattle.sqlite.specs.Tree.{Trees, rowid, put_row}
use Rattle.sqlite.specs.Effect.{Database}
use Rattle.sqlite.specs.State.{State, mode_of, Writes}
use Rattle.sqlite.specs.Listing.{understood}
use Rattle.sqlite.proofs.Callers.{statement_of, one_step}
use Rattle.sqlite_tables.specs.Format.{schema, no_schema, one_schema, two_schema, row_text, config_text, state_text, row_table, config_table, state_table}
use Rattle.sqlite_tables.specs.Tables.{HasRowids, Lists, entry_cells}
use Rattle.std.specs.List.{AllByRecursion}
use Rattle.std.specs.Prelude.{◌^◌, ◌-◌}
use Rattle.sqlite_tables.specs.Numbered.{IsNumbered}
use Rattle.sqlite_tables.specs.Steps.{HasRow, HasConfig, HasTables, HasNew, new_store}
use Rattle.sqlite_tables.proofs.Texts.{row_is, config_is, state_is, init_text, init_terms}
use Rattle.sqlite_tables.proofs.Insert.{goes, same_value, cast_null, cast_int}
use Rattle.sqlite_tables.proofs.Numbering.{all_edited, numbered_chosen, rows_more}
use Rattle.sqlite_tables.proofs.Lists.{put_all_fresh}
use Rattle.sqlite_tables.proofs.Rowids.{rowids_edit, no_rowids}

-- what CREATE TABLE makes of a schema that is written out
pub record Created (before : Schema) (table : Table) (old new : Database) : Type 0 where
  pub schema_is : new.schema ≡ created before table
  pub empty : new.trees (next_tree before) ≡ []
  pub others : KeepsRows before.tables old.trees new.trees

pub creates : (text : List ℕ) (table : Table) (before : Schema) → table_defined_by text ≡ Ok table → lacks_sequence (created before table) ≡ false → (old new : State) (count : ℕ) → old.now.schema ≡ before
    → Writes old new None CreateTable text [] count → Created before table old.now new.now
creates text table before defined plain old new count has w =
    let all = goes (subst (λ k. Does old.step_limit (mode_of old) [] (record old.now { schema = k }) text None CreateTable (Ok (w.tally, new.now))) has w.changed) in
    let first = goes all.1 in
    let made = first.1 in
    let same : made.table ≡ table = let both : Ok made.table ≡ Ok table = sym made.defined ∙ defined in cc in
    let schema_now : first.0.schema ≡ created before table = made.is ∙ ap (created before) same in
    let bare : lacks_sequence first.0.schema ≡ false = ap lacks_sequence schema_now ∙ plain in
    let now : new.now ≡ first.0 = ap (λ (p : Tally × Database). p.1) (same_value all.2) ∙ same_value (rw bare at first.2) in
    record {
      schema_is = ap (λ (d : Database). d.schema) now ∙ schema_now;
      empty = ap (λ (d : Database). d.trees (next_tree before)) now ∙ made.empty;
      others = subst (λ (d : Database). KeepsRows before.tables old.now.trees d.trees) (sym now) made.others;
    }

pub makes_row : (old new : State) (count : ℕ) → old.now.schema ≡ no_schema → Writes old new None CreateTable row_text [] count → HasRow new.now
makes_row old new count has w = let c = creates row_text row_table no_schema row_is refl old new count has w in record { schema_is = c.schema_is; row = c.empty }

pub makes_config : (old new : State) (count : ℕ) → HasRow old.now → Writes old new None CreateTable config_text [] count → HasConfig new.now
makes_config old new count has w =
    let c = creates config_text config_table one_schema config_is refl old new count has.schema_is w in record { schema_is = c.schema_is; row = c.others.0 ∙ has.row; config = c.empty }

pub makes_state : (old new : State) (count : ℕ) → HasConfig old.now → Writes old new None CreateTable state_text [] count → HasTables new.now
makes_state old new count has w =
    let c = creates state_text state_table two_schema state_is refl old new count has.schema_is w in
    record { schema_is = c.schema_is; row = c.others.0 ∙ has.row; config = c.others.1.0 ∙ has.config; state = c.empty }

cells_of : (rowids : Rowids) (rows : List Row) (row : Row) → drop 1 (with_rowid rowids rows row) ≡ drop 1 row
cells_of rowids rows row = go (is_chosen rowids (rowid row))
  where
    go : (b : Bool) → drop 1 (if b then Int (Rattle.sqlite.specs.Edit.at_least rowids (Rattle.sqlite.specs.Edit.next_rowid rows)) ∷ drop 1 row else row) ≡ drop 1 row
    go true = refl
    go false = refl

numbered_cells : (rowids : Rowids) (rows news : List Row) → map (drop 1) (numbered rowids rows news) ≡ map (drop 1) news
numbered_cells rowids rows [] = refl
numbered_cells rowids rows (r ∷ news) =
    ap (λ (x : Row). x ∷ map (drop 1) (numbered rowids (put_row (with_rowid rowids rows r) rows) news)) (cells_of rowids rows r)
    ∙ ap (λ (more : List Row). drop 1 r ∷ more) (numbered_cells rowids (put_row (with_rowid rowids rows r) rows) news)

abbrev state_at : Table
state_at = record state_table { tree = 3 }

abbrev pub init_params : ℕ → Row
init_params number = Int (pos number) ∷ []

pub inits : (old new : State) (number count : ℕ) → HasTables old.now → Writes old new None (Insert 2 (Values init_terms 3)) (statement_of init_text (understood schema init_text)) (init_params number) count
    → HasNew number new.now
inits old new number count has w =
    let params = init_params number in
    let db = old.now.trees in
    let command = Insert 2 (Values init_terms 3) in
    let text = statement_of init_text (understood schema init_text) in
    let done = goes (subst (λ k. Does old.step_limit (mode_of old) params (record old.now { schema = k }) text None command (Ok (w.tally, new.now))) has.schema_is w.changed) in
    let now = ap (λ (p : Tally × Database). p.1) (same_value (goes (goes done.2).2).2) in
    let given = goes done.1 in
    let written = goes (goes given.2).2 in
    let counted = goes written.2 in
    let trees : done.0.trees ≡ written.0 = ap (λ (it : Written). it.trees) (same_value counted.2) ∙ same_value counted.1 in
    let edit : Edit = edit_of db state_at [] Chosen 0 given.0 in
    let did = one_step schema _ db written.0 edit refl written.1 in
    let want : List Row = map entry_cells (new_store number).entries in
    let cells : map (drop 1) edit.news ≡ want = numbered_cells Chosen (Rattle.sqlite.specs.Edit.without_all (db 3) []) _ ∙ (ap (λ all. map (drop 1) (map (λ s. Rattle.sqlite.specs.Cast.cast_row state_at (drop 0 s)) all)) given.1.1
    ∙ rw (cast_int (pos 0), cast_int (pos 1), cast_int (pos number))) in
    let none : HasRowids [] = no_rowids in
    let put : IsPermutation (map (drop 1) (edit.news ++ [])) (map (drop 1) (edited db edit)) =
    subst (λ rows. IsPermutation (map (drop 1) (edit.news ++ rows)) (map (drop 1) (edited db edit))) has.state (IsPermutation-map (drop 1) _ _ (put_all_fresh edit.news (db 3) did.fresh)) in
    let tree : new.now.trees 3 ≡ edited db edit = ap (λ (d : Database). d.trees 3) now ∙ ap (λ (t : Trees). t 3) trees ∙ did.rows in
    let apart : (t : ℕ) → written.0 t ≡ db t → new.now.trees t ≡ db t = λ t same. ap (λ (d : Database). d.trees t) now ∙ ap (λ (all : Trees). all t) trees ∙ same in
    let config_same : new.now.trees 2 ≡ [] = apart 2 (did.tables.1.0 (λ e. absurd (omega (arith, e)))) ∙ has.config in
    let row_same : new.now.trees 0 ≡ [] = apart 0 (did.tables.0 (λ e. absurd (omega (arith, e)))) ∙ has.row in
    let made : List Row → List Row = map (λ s. Rattle.sqlite.specs.Cast.cast_row state_at (drop 0 s)) in
    let unnumbered : AllByRecursion (λ r. rowid r ≡ Null) (made given.0) = subst (λ all. AllByRecursion (λ r. rowid r ≡ Null) (made all)) (sym given.1.1) (cast_null, (cast_null, (cast_null, (cast_null, tt)))) in
    let fresh_rows : AllByRecursion (IsNumbered (0 + length (made given.0))) edit.news = numbered_chosen 0 (Rattle.sqlite.specs.Edit.without_all (db 3) []) (made given.0) (subst (AllByRecursion (IsNumbered 0)) (sym has.state) tt) unnumbered in
    let four : 0 + length (made given.0) ≡ 4 = ap (λ all. 0 + length (made all)) given.1.1 in
    let numbers : AllByRecursion (IsNumbered 4) (edited db edit) = all_edited (IsNumbered 4) db edit did.fresh (subst (λ n. AllByRecursion (IsNumbered n) edit.news) four fresh_rows) (subst (AllByRecursion (IsNumbered 4)) (sym has.state) tt) in
    record {
      holds = record {
        schema_is = ap (λ (d : Database). d.schema) now;
        spans = subst (λ rows. Lists rows []) (sym row_same) (IsPermutation-refl []);
        configs = subst (IsPermutation []) (sym config_same) (IsPermutation-refl []);
        configs_rowids = subst HasRowids (sym config_same) none;
        entries = subst (λ rows. Lists rows want) (sym tree) (subst (λ rows. IsPermutation rows (map (drop 1) (edited db edit))) (ap (map (drop 1)) (append-nil edit.news) ∙ cells) put);
        spans_rowids = subst HasRowids (sym row_same) none;
        entries_rowids = subst HasRowids (sym tree) (rowids_edit db edit did.keyed did.fresh (subst HasRowids (sym has.state) none));
      };
      numbered = record {
        spans = subst (AllByRecursion (IsNumbered 0)) (sym row_same) tt;
        entries = subst (AllByRecursion (IsNumbered (2 ^ 63 - 1))) (sym tree) (rows_more 4 (2 ^ 63 - 1) (omega arith) (edited db edit) numbers);
      };
    }
