-- What the INSERT of several spans does.
use Rattle.std.proofs.Common.{◌≡◌, ◌≤◌, ◌+◌, ◌-◌, ◌*◌, ◌/◌, ◌^◌, ℕ, zero, suc, pos, true, List, [], ◌∷◌, ◌++◌, length, fold, map, drop, None, Ok, refl, sym, ap, subst, ◌∙◌, arith, append-nil}
use Rattle.std.specs.List.{AllByRecursion}
use Rattle.std.specs.List.Sorted.{IsPermutation}
use Rattle.std.proofs.lemmas.List.{drop-drop, get_or-drop, map-append}
use Rattle.std.proofs.lemmas.List.Sorted.{IsPermutation-refl, IsPermutation-trans, IsPermutation-map, IsPermutation-middle, IsPermutation-append_right}
use Rattle.sqlite_typing.specs.Types.{accepts_terms}
use Rattle.sqlite.specs.declared.types.Value.TheVariants.{Null, Int}
use Rattle.sqlite.specs.Order.{Row, column}
use Rattle.sqlite.specs.Source.TheVariants.{Values}
use Rattle.sqlite.specs.Command.TheVariants.{Insert}
use Rattle.sqlite.specs.Cast.{cast_row}
use Rattle.sqlite.specs.Edit.{Edit, edit_of, edited, numbered, without_all}
use Rattle.sqlite.specs.Rowids.TheVariants.{Chosen}
use Rattle.sqlite.specs.Does.{Tally, Does}
use Rattle.sqlite.specs.Rows.{Written}
use Rattle.sqlite.specs.Tree.{Trees, put_row}
use Rattle.sqlite.specs.Effect.{Database, value_rows}
use Rattle.sqlite.specs.State.{State, mode_of, Writes}
use Rattle.sqlite.specs.Listing.{understood}
use Rattle.sqlite.specs.Term.{Term, lit, col}
use Rattle.sqlite.proofs.Callers.{IsPlain, command_of, one_step}
use Rattle.sqlite_tied.specs.Compute.{everything}
use Rattle.sqlite_tables.specs.declared.stored.StoredEvent.{StoredEvent}
use Rattle.sqlite_tables.specs.Format.{schema, row_table}
use Rattle.sqlite_tables.specs.Tables.{HasRowids, Span, Contents, Holds, Lists, span_cells, config_with_rowid, entry_cells}
use Rattle.sqlite_tables.specs.Numbered.{IsNumbered, AreNumberedTo}
use Rattle.sqlite_tables.specs.Stored.{span_between}
use Rattle.sqlite_tables.specs.Caused.{spans_of}
use Rattle.sqlite_tables.specs.inside.Together.{all_values, rows_values, with_spans}
use Rattle.sqlite_tables.proofs.Texts.{eight_text}
use Rattle.sqlite_tables.proofs.Fixed.Causes.{Fits}
use Rattle.sqlite_tables.proofs.Insert.{goes, same_value, cast_int}
use Rattle.sqlite_tables.proofs.Lists.{put_all_fresh}
use Rattle.sqlite_tables.proofs.Numbering.{all_edited}
use Rattle.sqlite_tables.proofs.Rowids.{rowids_edit}

-- the terms of so many rows, whose parameters stand from the place on
abbrev pub row_terms : ℕ → ℕ → List Term
row_terms at zero = []
row_terms at (suc n) = col 0 at ∷ col 0 (at + 1) ∷ col 0 (at + 2) ∷ col 0 (at + 3) ∷ col 0 (at + 4) ∷ col 0 0 ∷ lit (Int (pos 0)) ∷ row_terms (at + 5) n

-- the text adds so many rows
pub record AddsRows (n : ℕ) (text : List ℕ) : Type 0 where
  pub is : command_of (understood schema text) ≡ Insert 0 (Values (row_terms 1 n) 7)
  pub plain : IsPlain (understood schema text)
  pub fits : Fits (5 * n + 1) text (understood schema text)

pub eight_adds : AddsRows 8 eight_text
unfolding understood everything
eight_adds = record { is = refl; plain = (refl, refl); fits = (omega arith, refl, refl) }

-- the rows that the statement adds
abbrev pub new_row : ℕ → ℕ → StoredEvent → Row
new_row rev id e = Int (pos id) ∷ span_cells (span_between e.tuple rev 0)

abbrev pub new_rows : ℕ → ℕ → List StoredEvent → List Row
new_rows rev first [] = []
new_rows rev first (e ∷ events) = new_row rev first e ∷ new_rows rev (first + 1) events

-- ---- from the parameters

module _ (params : Row) (rev : ℕ) (newest : column params 0 ≡ Int (pos rev)) where
  place : (at k : ℕ) (values : Row) → drop at params ≡ values → column params (at + k) ≡ column values k
  place at k values are = sym (get_or-drop at params k Null) ∙ ap (λ (r : Row). column r k) are

  first_place : (at : ℕ) (values : Row) → drop at params ≡ values → column params at ≡ column values 0
  first_place at values are = let here : at ≡ at + 0 = omega arith in ap (column params) here ∙ place at 0 values are

  rest_is : (at first : ℕ) (e : StoredEvent) (events : List StoredEvent) → drop at params ≡ rows_values first (e ∷ events) → drop (at + 5) params ≡ rows_values (first + 1) events
  rest_is at first e events are = sym (drop-drop 5 at params) ∙ ap (λ (r : Row). drop 5 r) are

  rows_are : (at first : ℕ) (events : List StoredEvent) → drop at params ≡ rows_values first events → value_rows params 7 (length events) (row_terms at (length events)) ≡ new_rows rev first events
  rows_are at first [] are = refl
  rows_are at first (e ∷ events) are =
      let values = rows_values first (e ∷ events) in
      rw (first_place at values are, place at 1 values are, place at 2 values are, place at 3 values are, place at 4 values are, newest)
      (ap (λ (more : List Row). new_row rev first e ∷ more) (rows_are (at + 5) (first + 1) events (rest_is at first e events are)))

  terms_accepted : (at first : ℕ) (events : List StoredEvent) → drop at params ≡ rows_values first events → accepts_terms (row_terms at (length events)) params ≡ true
  terms_accepted at first [] are = refl
  terms_accepted at first (e ∷ events) are =
      let values = rows_values first (e ∷ events) in
      rw (first_place at values are, place at 1 values are, place at 2 values are, place at 3 values are, place at 4 values are, newest)
      (terms_accepted (at + 5) (first + 1) events (rest_is at first e events are))

-- a table with no default that reads the time adds nothing to the parameters
abbrev pub params_of : ℕ → ℕ → List StoredEvent → Row
params_of rev first events = all_values rev first events ++ []

terms_length : (at n : ℕ) → length (row_terms at n) ≡ 7 * n
terms_length at zero = refl
terms_length at (suc n) = omega (arith, terms_length (at + 5) n)

pub source_rows : (rev first : ℕ) (events : List StoredEvent)
    → value_rows (params_of rev first events) 7 (length (row_terms 1 (length events)) / 7) (row_terms 1 (length events)) ≡ new_rows rev first events
source_rows rev first events =
    let count : length (row_terms 1 (length events)) / 7 ≡ length events = omega (arith, terms_length 1 (length events)) in
    ap (λ (n : ℕ). value_rows (params_of rev first events) 7 n (row_terms 1 (length events))) count ∙ rows_are (params_of rev first events) rev refl 1 first events (append-nil (rows_values first events))

pub source_accepted : (rev first : ℕ) (events : List StoredEvent) → accepts_terms (row_terms 1 (length events)) (params_of rev first events) ≡ true
source_accepted rev first events = terms_accepted (params_of rev first events) rev refl 1 first events (append-nil (rows_values first events))

-- ---- as the edit has them

cast_rows : (rev first : ℕ) (events : List StoredEvent) → map (λ s. cast_row row_table (drop 0 s)) (new_rows rev first events) ≡ new_rows rev first events
cast_rows rev first [] = refl
cast_rows rev first (e ∷ events) =
    rw (cast_int (pos first), cast_int (pos rev), cast_int (pos 0)) (ap (λ (more : List Row). new_row rev first e ∷ more) (cast_rows rev (first + 1) events))

numbered_rows : (rows : List Row) (rev first : ℕ) (events : List StoredEvent) → numbered Chosen rows (new_rows rev first events) ≡ new_rows rev first events
numbered_rows rows rev first [] = refl
numbered_rows rows rev first (e ∷ events) = ap (λ (more : List Row). new_row rev first e ∷ more) (numbered_rows (put_row (new_row rev first e) rows) rev (first + 1) events)

pub news_are : (db : Trees) (rev first : ℕ) (events : List StoredEvent) (rows : List Row) → rows ≡ new_rows rev first events → (edit_of db row_table [] Chosen 0 rows).news ≡ new_rows rev first events
news_are db rev first events rows given =
    ap (λ (all : List Row). (edit_of db row_table [] Chosen 0 all).news) given
    ∙ (ap (numbered Chosen (without_all (db 0) [])) (cast_rows rev first events) ∙ numbered_rows (without_all (db 0) []) rev first events)

-- ---- what they hold

cells_are : (rev first : ℕ) (events : List StoredEvent) → map (drop 1) (new_rows rev first events) ≡ map span_cells (spans_of rev events)
cells_are rev first [] = refl
cells_are rev first (e ∷ events) = ap (λ (more : List Row). span_cells (span_between e.tuple rev 0) ∷ more) (cells_are rev (first + 1) events)

numbers_are : (n rev first : ℕ) (events : List StoredEvent) → first + length events ≤ n + 1 → AllByRecursion (IsNumbered n) (new_rows rev first events)
numbers_are n rev first [] up = tt
numbers_are n rev first (e ∷ events) up = ((first, refl, omega (arith, up)), numbers_are n rev (first + 1) events (omega (arith, up)))

spans_stand : (spans others : List Span) → IsPermutation (map span_cells (fold (λ all s. s ∷ all) others spans)) (map span_cells spans ++ map span_cells others)
spans_stand [] others = IsPermutation-refl _
spans_stand (s ∷ spans) others =
    IsPermutation-trans _ (map span_cells spans ++ span_cells s ∷ map span_cells others) _ (spans_stand spans (s ∷ others)) (IsPermutation-middle (map span_cells spans) (span_cells s) (map span_cells others))

pub inserts_all : (old new : State) (rev first : ℕ) (events : List StoredEvent) (text : List ℕ) (count : ℕ) (h : Contents) → Holds old.now h
    → Writes old new None (Insert 0 (Values (row_terms 1 (length events)) 7)) text (all_values rev first events) count
    → Holds new.now (with_spans (spans_of rev events) h) × ((n : ℕ) → first + length events ≤ n + 1 → AreNumberedTo n old.now.trees → AreNumberedTo n new.now.trees)
inserts_all old new rev first events text count h holds w =
    let params = all_values rev first events in
    let db = old.now.trees in
    let command = Insert 0 (Values (row_terms 1 (length events)) 7) in
    let done = goes (subst (λ k. Does old.step_limit (mode_of old) params (record old.now { schema = k }) text None command (Ok (w.tally, new.now))) holds.schema_is w.changed) in
    let now = ap (λ (p : Tally × Database). p.1) (same_value (goes (goes done.2).2).2) in
    let given = goes done.1 in
    let written = goes (goes given.2).2 in
    let counted = goes written.2 in
    let trees : done.0.trees ≡ written.0 = ap (λ (it : Written). it.trees) (same_value counted.2) ∙ same_value counted.1 in
    let edit : Edit = edit_of db row_table [] Chosen 0 given.0 in
    let did = one_step schema _ db written.0 edit refl written.1 in
    let spans = spans_of rev events in
    let news : edit.news ≡ new_rows rev first events = news_are db rev first events given.0 (given.1.1 ∙ source_rows rev first events) in
    let put : IsPermutation (edit.news ++ db 0) (edited db edit) = put_all_fresh edit.news (db 0) did.fresh in
    let tree : new.now.trees 0 ≡ edited db edit = ap (λ (d : Database). d.trees 0) now ∙ ap (λ (t : Trees). t 0) trees ∙ did.rows in
    let apart : (t : ℕ) → written.0 t ≡ db t → new.now.trees t ≡ db t = λ t same. ap (λ (d : Database). d.trees t) now ∙ ap (λ (all : Trees). all t) trees ∙ same in
    let both : map (drop 1) (edit.news ++ db 0) ≡ map span_cells spans ++ map (drop 1) (db 0) =
    map-append (drop 1) edit.news (db 0) ∙ ap (λ (all : List Row). all ++ map (drop 1) (db 0)) (ap (map (drop 1)) news ∙ cells_are rev first events) in
    let cells : IsPermutation (map span_cells spans ++ map (drop 1) (db 0)) (map (drop 1) (edited db edit)) =
    subst (λ (all : List Row). IsPermutation all (map (drop 1) (edited db edit))) both (IsPermutation-map (drop 1) _ _ put) in (
      record {
        schema_is = ap (λ (d : Database). d.schema) now;
        spans = subst (λ rows. Lists rows (map span_cells (with_spans spans h).spans)) (sym tree)
            (IsPermutation-trans _ (map span_cells spans ++ map span_cells h.spans) _ (spans_stand spans h.spans)
            (IsPermutation-trans _ (map span_cells spans ++ map (drop 1) (db 0)) _ (IsPermutation-append_right (map span_cells spans) _ _ holds.spans) cells));
        configs = subst (IsPermutation (map config_with_rowid h.configs)) (sym (apart 2 (did.tables.1.0 (λ e. absurd (omega (arith, e)))))) holds.configs;
        configs_rowids = subst HasRowids (sym (apart 2 (did.tables.1.0 (λ e. absurd (omega (arith, e)))))) holds.configs_rowids;
        entries = subst (λ rows. Lists rows (map entry_cells h.entries)) (sym (apart 3 (did.tables.1.1.0 (λ e. absurd (omega (arith, e)))))) holds.entries;
        spans_rowids = subst HasRowids (sym tree) (rowids_edit db edit did.keyed did.fresh holds.spans_rowids);
        entries_rowids = subst HasRowids (sym (apart 3 (did.tables.1.1.0 (λ e. absurd (omega (arith, e)))))) holds.entries_rowids;
      },
      λ n up was. record {
        spans = subst (AllByRecursion (IsNumbered n)) (sym tree)
            (all_edited (IsNumbered n) db edit did.fresh (subst (AllByRecursion (IsNumbered n)) (sym news) (numbers_are n rev first events up)) was.spans);
        entries = subst (AllByRecursion (IsNumbered (2 ^ 63 - 1))) (sym (apart 3 (did.tables.1.1.0 (λ e. absurd (omega (arith, e)))))) was.entries;
      },
    )
