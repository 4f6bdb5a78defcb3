-- What the two DELETEs of a trim do.
use Rattle.std.proofs.Common.{◌≡◌, ℕ, pos, Bool, true, false, not, ◌&&◌, List, [], ◌∷◌, map, drop, filter, Some, None, Ok, refl, sym, ap, subst, ◌∙◌, arith}
use Rattle.std.specs.List.{list_all}
use Rattle.std.specs.List.Sorted.{IsPermutation}
use Rattle.std.specs.Prelude.{nat_lt}
use Rattle.std.specs.Ordering.{is_lt, is_le, is_gt, int_cmp}
use Rattle.std.proofs.lemmas.Bool.Decides.{nat_tests}
use Rattle.std.proofs.lemmas.List.Sorted.{IsPermutation-map}
use Rattle.sqlite.specs.declared.types.Value.TheVariants.{Null, Int}
use Rattle.sqlite.specs.Order.{Row, value_cmp}
use Rattle.sqlite_value.proofs.OrderLemmas.{value_cmp-Int}
use Rattle.sqlite.specs.Collation.TheVariants.{Binary}
use Rattle.sqlite_sql.specs.declared.ops.BinaryOp.TheVariants.{Compare}
use Rattle.sqlite_sql.specs.declared.ops.CompareOp.TheVariants.{Lt, Le, Gt}
use Rattle.sqlite.specs.Ops.{binary, is_true}
use Rattle.sqlite.specs.Term.{holds}
use Rattle.sqlite.specs.Command.TheVariants.{Delete}
use Rattle.sqlite.specs.Table.{Table}
use Rattle.sqlite.specs.Edit.{Edit, edit_of, edited, id_in}
use Rattle.sqlite.specs.Rowids.TheVariants.{Given}
use Rattle.sqlite.specs.Does.{Tally, Does}
use Rattle.sqlite.specs.Rows.{Written}
use Rattle.sqlite.specs.Tree.{Trees, rowid}
use Rattle.sqlite.specs.Effect.{Database}
use Rattle.sqlite.specs.State.{State, mode_of, Writes}
use Rattle.sqlite_trees.proofs.ListLemmas.{all-filter, map-map, filter-map, IsPermutation-filter}
use Rattle.sqlite_rules.specs.Calls.{ids_of}
use Rattle.sqlite.specs.Listing.{understood}
use Rattle.sqlite.proofs.Callers.{statement_of, one_step}
use Rattle.sqlite_tables.specs.Format.{schema, row_table, config_table}
use Rattle.sqlite_tables.specs.Tables.{HasRowids, Span, ConfigRow, Contents, Holds, Lists, span_cells, config_with_rowid, entry_cells, is_past, is_below}
use Rattle.sqlite_tables.specs.Steps.{without_past, without_below}
use Rattle.sqlite_tables.proofs.Texts.{drop_text, drop_query, drop_configs_text, drop_configs_query, alone}
use Rattle.sqlite_tables.proofs.Insert.{goes, same_value}
use Rattle.sqlite_tables.proofs.Scan.{scan_rows}
use Rattle.sqlite_tables.proofs.Update.{left_is, filter_congr}
use Rattle.sqlite_tables.proofs.Rowids.{rowids_edit}
use Rattle.sqlite_tables.specs.Numbered.{IsNumbered, AreNumberedTo}
use Rattle.std.specs.List.{AllByRecursion}
use Rattle.std.specs.Prelude.{◌≤◌, ◌^◌, ◌-◌}

-- ---- what the tests ask

truth : (c : Bool) → is_true (Rattle.sqlite_sql.specs.Ops.from_truth (Some c)) ≡ c
truth true = refl
truth false = refl

above_as : (a b : ℕ) → is_true (binary (Compare Gt Binary) (Int (pos a)) (Int (pos b))) ≡ nat_lt b a
unfolding binary
above_as a b = truth (is_gt (value_cmp (Int (pos a)) (Int (pos b)))) ∙ (ap is_gt (value_cmp-Int (pos a) (pos b)) ∙ above)
  where
    above : is_gt (int_cmp (pos a) (pos b)) ≡ nat_lt b a
    above = grind (arith, nat_tests)

up_to_as : (a b : ℕ) → is_true (binary (Compare Le Binary) (Int (pos a)) (Int (pos b))) ≡ not (nat_lt b a)
unfolding binary
up_to_as a b = truth (is_le (value_cmp (Int (pos a)) (Int (pos b)))) ∙ (ap is_le (value_cmp-Int (pos a) (pos b)) ∙ up_to)
  where
    up_to : is_le (int_cmp (pos a) (pos b)) ≡ not (nat_lt b a)
    up_to = grind (arith, nat_tests)

below_as : (a b : ℕ) → is_true (binary (Compare Lt Binary) (Int (pos a)) (Int (pos b))) ≡ nat_lt a b
unfolding binary
below_as a b = truth (is_lt (value_cmp (Int (pos a)) (Int (pos b)))) ∙ (ap is_lt (value_cmp-Int (pos a) (pos b)) ∙ below)
  where
    below : is_lt (int_cmp (pos a) (pos b)) ≡ nat_lt a b
    below = grind (arith, nat_tests)

-- ---- any DELETE

abbrev pub id_row : Row → Row
id_row r = rowid r ∷ []

pub deletes : (db : Trees) (table : Table) (P : Row → Bool) (rows : List Row) → HasRowids (db table.tree) → IsPermutation (map id_row (filter P (db table.tree))) rows
    → edited db (edit_of db table (ids_of rows) Given 0 []) ≡ filter (λ r. not (P r)) (db table.tree)
deletes db table P rows shaped perm =
    left_is P (db table.tree) shaped (ids_of rows)
    (subst (λ ids. IsPermutation ids (ids_of rows)) (map-map (λ r. id_in (rowid r)) id_row (filter P (db table.tree))) (IsPermutation-map (λ r. id_in (rowid r)) _ _ perm))

-- `cells` shows a value as the part of a row that the test looks at
pub leaves : {X : Type 0} (cells : X → Row) (gone : X → Bool) (part : Row → Row) (Q P : Row → Bool) (tree : List Row) (xs : List X) → ((r : Row) → P r ≡ Q (part r)) → ((x : X) → Q (cells x) ≡ gone x)
    → IsPermutation (map cells xs) (map part tree) → IsPermutation (map cells (filter (λ x. not (gone x)) xs)) (map part (filter (λ r. not (P r)) tree))
leaves {X} cells gone part Q P tree xs reads does held =
    let keep : Row → Bool = λ r. not (Q r) in
    let model : filter keep (map cells xs) ≡ map cells (filter (λ x. not (gone x)) xs) = filter-map keep cells xs ∙ ap (map cells) (filter_congr (λ x. keep (cells x)) (λ x. not (gone x)) (λ x. ap not (does x)) xs) in
    let code : filter keep (map part tree) ≡ map part (filter (λ r. not (P r)) tree) = filter-map keep part tree ∙ ap (map part) (filter_congr (λ r. keep (part r)) (λ r. not (P r)) (λ r. ap not (sym (reads r))) tree) in
    subst (λ all. IsPermutation all (map part (filter (λ r. not (P r)) tree))) model
    (subst (IsPermutation (filter keep (map cells xs))) code (IsPermutation-filter keep _ _ held))

single : (b : Bool) → (b && true) ≡ b
single true = refl
single false = refl

double : (a b : Bool) → (a && (b && true)) ≡ (a && b)
double true true = refl
double true false = refl
double false b = refl

map_same : (rows : List Row) → map (λ r. r) rows ≡ rows
map_same [] = refl
map_same (r ∷ rows) = ap (λ (more : List Row). r ∷ more) (map_same rows)

-- ---- the spans

abbrev pub past_params : ℕ → Row
past_params floor = Int (pos floor) ∷ []

abbrev pub passes_span : ℕ → Row → Bool
passes_span floor r = list_all (holds (past_params floor ∷ r ∷ [])) drop_query.filter

span_reads : (floor : ℕ) (r : Row) → passes_span floor r ≡ passes_span floor (Null ∷ drop 1 r)
span_reads floor [] = refl
span_reads floor (id ∷ cells) = refl

span_past : (floor : ℕ) (x : Span) → passes_span floor (Null ∷ span_cells x) ≡ is_past floor x
span_past floor x = rw (above_as x.removed 0, up_to_as x.removed floor) (double (nat_lt 0 x.removed) (not (nat_lt floor x.removed)))

pub drops_spans : (old new : State) (floor count : ℕ) (h : Contents) → Holds old.now h → Writes old new None (Delete 0 (alone drop_query)) (statement_of drop_text (understood schema drop_text)) (past_params floor) count
    → Holds new.now (without_past floor h) × ((n : ℕ) → 0 ≤ n → AreNumberedTo n old.now.trees → AreNumberedTo n new.now.trees)
drops_spans old new floor count h holds w =
    let params = past_params floor in
    let db = old.now.trees in
    let command = Delete 0 (alone drop_query) in
    let text = statement_of drop_text (understood schema drop_text) in
    let done = goes (subst (λ k. Does old.step_limit (mode_of old) params (record old.now { schema = k }) text None command (Ok (w.tally, new.now))) holds.schema_is w.changed) in
    let now = ap (λ (p : Tally × Database). p.1) (same_value (goes (goes done.2).2).2) in
    let given = goes done.1 in
    let wrote = goes given.2 in
    let trees : done.0.trees ≡ wrote.0 = ap (λ (it : Written). it.trees) (same_value wrote.2) in
    let edit : Edit = edit_of db row_table (ids_of given.0) Given 0 [] in
    let did = one_step schema _ db wrote.0 edit refl wrote.1 in
    let shown = scan_rows 0 drop_query.filter drop_query.project [] _ params given.0 (given.1.answer Null) in
    let tree : new.now.trees 0 ≡ edited db edit = ap (λ (d : Database). d.trees 0) now ∙ ap (λ (t : Trees). t 0) trees ∙ did.rows in
    let left : edited db edit ≡ filter (λ r. not (passes_span floor r)) (db 0) = deletes db row_table (passes_span floor) given.0 holds.spans_rowids shown in
    let apart : (t : ℕ) → wrote.0 t ≡ db t → new.now.trees t ≡ db t = λ t same. ap (λ (d : Database). d.trees t) now ∙ ap (λ (all : Trees). all t) trees ∙ same in
    let config_same : new.now.trees 2 ≡ db 2 = apart 2 (did.tables.1.0 (λ e. absurd (omega (arith, e)))) in
    let entry_same : new.now.trees 3 ≡ db 3 = apart 3 (did.tables.1.1.0 (λ e. absurd (omega (arith, e)))) in (
      record {
        schema_is = ap (λ (d : Database). d.schema) now;
        spans = subst (λ rows. Lists rows (map span_cells (without_past floor h).spans)) (sym (tree ∙ left))
            (leaves span_cells (is_past floor) (drop 1) (λ cells. passes_span floor (Null ∷ cells)) (passes_span floor) (db 0) h.spans (span_reads floor) (span_past floor) holds.spans);
        configs = subst (IsPermutation (map config_with_rowid h.configs)) (sym config_same) holds.configs;
        entries = subst (λ rows. Lists rows (map entry_cells h.entries)) (sym entry_same) holds.entries;
        spans_rowids = subst HasRowids (sym tree) (rowids_edit db edit did.keyed did.fresh holds.spans_rowids);
        configs_rowids = subst HasRowids (sym config_same) holds.configs_rowids;
        entries_rowids = subst HasRowids (sym entry_same) holds.entries_rowids;
      },
      λ n up was. record {
        spans = subst (AllByRecursion (IsNumbered n)) (sym (tree ∙ left)) (all-filter (IsNumbered n) (λ r. not (passes_span floor r)) (db 0) was.spans);
        entries = subst (AllByRecursion (IsNumbered (2 ^ 63 - 1))) (sym entry_same) was.entries;
      },
    )

-- ---- the configurations

abbrev pub config_table_at : Table
config_table_at = record config_table { tree = 2 }

abbrev pub passes_config : ℕ → Row → Bool
passes_config rev r = list_all (holds (past_params rev ∷ r ∷ [])) drop_configs_query.filter

config_below : (rev : ℕ) (c : ConfigRow) → passes_config rev (config_with_rowid c) ≡ is_below rev c
config_below rev c = rw (below_as c.rev rev) (single (nat_lt c.rev rev))

pub drops_configs : (old new : State) (rev count : ℕ) (h : Contents) → Holds old.now h → Writes old new None (Delete 1 (alone drop_configs_query)) (statement_of drop_configs_text (understood schema drop_configs_text)) (past_params rev) count
    → Holds new.now (without_below rev h) × ((n : ℕ) → 0 ≤ n → AreNumberedTo n old.now.trees → AreNumberedTo n new.now.trees)
drops_configs old new rev count h holds w =
    let params = past_params rev in
    let db = old.now.trees in
    let command = Delete 1 (alone drop_configs_query) in
    let text = statement_of drop_configs_text (understood schema drop_configs_text) in
    let done = goes (subst (λ k. Does old.step_limit (mode_of old) params (record old.now { schema = k }) text None command (Ok (w.tally, new.now))) holds.schema_is w.changed) in
    let now = ap (λ (p : Tally × Database). p.1) (same_value (goes (goes done.2).2).2) in
    let given = goes done.1 in
    let wrote = goes given.2 in
    let trees : done.0.trees ≡ wrote.0 = ap (λ (it : Written). it.trees) (same_value wrote.2) in
    let edit : Edit = edit_of db config_table_at (ids_of given.0) Given 0 [] in
    let did = one_step schema _ db wrote.0 edit refl wrote.1 in
    let shown = scan_rows 2 drop_configs_query.filter drop_configs_query.project [] _ params given.0 (given.1.answer Null) in
    let tree : new.now.trees 2 ≡ edited db edit = ap (λ (d : Database). d.trees 2) now ∙ ap (λ (t : Trees). t 2) trees ∙ did.rows in
    let left : edited db edit ≡ filter (λ r. not (passes_config rev r)) (db 2) = deletes db config_table_at (passes_config rev) given.0 holds.configs_rowids shown in
    let apart : (t : ℕ) → wrote.0 t ≡ db t → new.now.trees t ≡ db t = λ t same. ap (λ (d : Database). d.trees t) now ∙ ap (λ (all : Trees). all t) trees ∙ same in
    let row_same : new.now.trees 0 ≡ db 0 = apart 0 (did.tables.0 (λ e. absurd (omega (arith, e)))) in
    let entry_same : new.now.trees 3 ≡ db 3 = apart 3 (did.tables.1.1.0 (λ e. absurd (omega (arith, e)))) in
    let whole : IsPermutation (map config_with_rowid h.configs) (map (λ r. r) (db 2)) = subst (IsPermutation (map config_with_rowid h.configs)) (sym (map_same (db 2))) holds.configs in
    let kept = subst (IsPermutation (map config_with_rowid (without_below rev h).configs)) (map_same (filter (λ r. not (passes_config rev r)) (db 2)))
    (leaves config_with_rowid (is_below rev) (λ r. r) (passes_config rev) (passes_config rev) (db 2) h.configs (λ r. refl) (config_below rev) whole) in (
      record {
        schema_is = ap (λ (d : Database). d.schema) now;
        spans = subst (λ rows. Lists rows (map span_cells h.spans)) (sym row_same) holds.spans;
        configs = subst (IsPermutation (map config_with_rowid (without_below rev h).configs)) (sym (tree ∙ left)) kept;
        entries = subst (λ rows. Lists rows (map entry_cells h.entries)) (sym entry_same) holds.entries;
        spans_rowids = subst HasRowids (sym row_same) holds.spans_rowids;
        configs_rowids = subst HasRowids (sym tree) (rowids_edit db edit did.keyed did.fresh holds.configs_rowids);
        entries_rowids = subst HasRowids (sym entry_same) holds.entries_rowids;
      },
      λ n up was. record {
        spans = subst (AllByRecursion (IsNumbered n)) (sym row_same) was.spans;
        entries = subst (AllByRecursion (IsNumbered (2 ^ 63 - 1))) (sym entry_same) was.entries;
      },
    )
