-- The INSERT of several spans is refused by no rule.
use Rattle.std.proofs.Common.{◌≡◌, ◌≢◌, ◌⊎◌, ◌≤◌, ◌<◌, ◌+◌, ◌*◌, ◌^◌, inl, inr, ℕ, pos, true, false, ◌&&◌, not, List, [], ◌∷◌, length, Some, None, Err, IsTrue, refl, sym, ap, subst, ◌∙◌, arith, true≢false}
use Rattle.std.specs.List.{AllByRecursion, IsDistinct}
use Rattle.std.specs.Ordering.{is_eq}
use Rattle.std.proofs.lemmas.Bool.{and_parts, and_from, not-true, lt-ltb, both_ways, false_from_ne_true}
use Rattle.std.proofs.lemmas.Map.Keys.{IsDistinct-head, IsDistinct-tail}
use Rattle.sqlite_disk.specs.Disk.{MoreFaults}
use Rattle.sqlite.specs.declared.types.Value.{Value}
use Rattle.sqlite.specs.declared.types.Value.TheVariants.{Int}
use Rattle.sqlite.specs.Order.{Row, value_cmp}
use Rattle.sqlite.specs.Tree.{Trees, rowid, put_row}
use Rattle.sqlite.specs.View.{IsStorable, IsStorableRow}
use Rattle.sqlite.specs.Source.{Source}
use Rattle.sqlite.specs.Source.TheVariants.{Values}
use Rattle.sqlite.specs.Command.TheVariants.{Insert}
use Rattle.sqlite.specs.Edit.{Edit, edit_of, edited, put_all, is_taken, are_fresh, IsOversized}
use Rattle.sqlite.specs.Rowids.TheVariants.{Chosen}
use Rattle.sqlite.specs.Effect.{IsDatabase}
use Rattle.sqlite.specs.Listing.{understood}
use Rattle.sqlite.specs.State.{State, Executes, mode_of}
use Rattle.sqlite.specs.declared.error.Error.{Error}
use Rattle.sqlite.specs.declared.error.Error.TheVariants.{SqliteFailure}
use Rattle.sqlite.specs.declared.error.ErrorCode.TheVariants.{OutOfMemory}
use Rattle.sqlite.specs.Does.{Does, Concludes}
use Rattle.sqlite.specs.Rows.{Sourced, Inserts, Task}
use Rattle.sqlite.proofs.Callers.{statement_of}
use Rattle.sqlite_value.specs.Keys.{plain}
use Rattle.sqlite_sql.specs.Catalog.{entry_of}
use Rattle.sqlite_schema.specs.declared.schema.Index.{Index}
use Rattle.sqlite_schema.specs.Rules.{Keeps, agree, differ, clashes, index_reals}
use Rattle.sqlite_schema.specs.declared.schema.Constraint.TheVariants.{Unique}
use Rattle.sqlite_schema.specs.declared.schema.Keys.TheVariants.{Enforced}
use Rattle.sqlite_catalog.specs.Listing.{IsSound}
use Rattle.sqlite_rules.specs.Lists.{Has}
use Rattle.sqlite_rules.proofs.ListLemmas.{all_has, all_from, some_has, some_from, test_from}
use Rattle.sqlite_rules.proofs.TableLemmas.{put_all_has}
use Rattle.sqlite_rules.proofs.KeyLemmas.{agree_back}
use Rattle.sqlite_trees.proofs.TreeLemmas.{all-put_row}
use Rattle.sqlite_tables.specs.declared.stored.StoredEvent.{StoredEvent}
use Rattle.sqlite_tables.specs.declared.stored.TupleText.{TupleText}
use Rattle.sqlite_tables.specs.Format.{schema, row_table}
use Rattle.sqlite_tables.specs.Tables.{Contents, Holds, span_cells, same_tuple}
use Rattle.sqlite_tables.specs.Numbered.{AreNumberedTo, BeganBefore, IsNumbered, IsShort}
use Rattle.sqlite_tables.specs.Stored.{span_between}
use Rattle.sqlite_tables.specs.Caused.{spans_of}
use Rattle.sqlite_tables.specs.inside.Together.{all_values, rows_values}
use Rattle.sqlite_tables.proofs.Texts.{indexes_are}
use Rattle.sqlite_tables.proofs.Numbering.{rows_more}
use Rattle.sqlite_tables.proofs.Together.{AddsRows, new_row, new_rows, news_are, params_of, row_terms, source_accepted, source_rows}
use Rattle.sqlite_tables.proofs.Fixed.Causes.{Fits}
use Rattle.sqlite_tables.proofs.Fixed.Failing.{Refuses, fails_as}
use Rattle.sqlite_tables.proofs.Fixed.Parts.{NeverStops, Passes, then_goes, gives_goes, edit_goes, concludes_goes}
use Rattle.sqlite_tables.proofs.Fixed.Shapes.{Shaped, shaped, all_true, other_number, row_refers}
use Rattle.sqlite_tables.proofs.Fixed.Checks.{checks_pass, key_columns, one_key, same_rowid_value}
use Rattle.sqlite_tables.proofs.Fixed.Storable.{short_span, short_span_key}

rows_length : (first : ℕ) (events : List StoredEvent) → length (rows_values first events) ≡ 5 * length events
rows_length first [] = refl
rows_length first (e ∷ events) = omega (arith, rows_length (first + 1) events)

-- ---- the new rows

record IsNew (rev first : ℕ) (events : List StoredEvent) (r : Row) : Type 0 where
  id : ℕ
  tuple : TupleText
  below : id < first + length events
  among : Has (spans_of rev events) (span_between tuple rev 0)
  is : r ≡ Int (pos id) ∷ span_cells (span_between tuple rev 0)

new_is : (rev first : ℕ) (events : List StoredEvent) (r : Row) → Has (new_rows rev first events) r → IsNew rev first events r
new_is rev first [] r none = absurd none
new_is rev first (e ∷ events) r (inl is) = record { id = first; tuple = e.tuple; below = omega arith; among = inl refl; is = is }
new_is rev first (e ∷ events) r (inr there) =
    let n = new_is rev (first + 1) events r there in
    record { id = n.id; tuple = n.tuple; below = omega (arith, n.below); among = inr n.among; is = n.is }

-- no later row has the key of the first
later_apart : (rev first : ℕ) (e : StoredEvent) (events : List StoredEvent) → IsDistinct same_tuple (spans_of rev (e ∷ events)) → (head r : Row) → head ≡ new_row rev first e → IsNew rev (first + 1) events r
    → ¬ (agree plain key_columns head key_columns r ≡ true)
later_apart rev first e events apart head r is n agrees =
    let s = span_between e.tuple rev 0 in
    let t = span_between n.tuple rev 0 in
    let both : agree plain key_columns (Int (pos first) ∷ span_cells s) key_columns (Int (pos n.id) ∷ span_cells t) ≡ true =
    sym (ap (λ (x : Row). agree plain key_columns (Int (pos first) ∷ span_cells s) key_columns x) n.is) ∙ (sym (ap (λ (x : Row). agree plain key_columns x key_columns r) is) ∙ agrees) in
    let other : same_tuple s t ≡ false = all_has (λ y. same_tuple s y ≡ false) (spans_of rev events) t (IsDistinct-head same_tuple s (spans_of rev events) apart) n.among in
    true≢false (sym (one_key first n.id s t both).0 ∙ other)

-- those that have one key are one
same_row : (rev first : ℕ) (events : List StoredEvent) → IsDistinct same_tuple (spans_of rev events) → (r other : Row) → Has (new_rows rev first events) r → Has (new_rows rev first events) other
    → agree plain key_columns other key_columns r ≡ true → rowid r ≡ rowid other
same_row rev first [] apart r other here there agrees = absurd here
same_row rev first (e ∷ events) apart r other (inl is) (inl also) agrees = ap (λ (x : Row). rowid x) (is ∙ sym also)
same_row rev first (e ∷ events) apart r other (inl is) (inr there) agrees =
    absurd (later_apart rev first e events apart r other is (new_is rev (first + 1) events other there) (agree_back plain key_columns key_columns other r agrees))
same_row rev first (e ∷ events) apart r other (inr here) (inl also) agrees = absurd (later_apart rev first e events apart other r also (new_is rev (first + 1) events r here) agrees)
same_row rev first (e ∷ events) apart r other (inr here) (inr there) agrees = same_row rev (first + 1) events (IsDistinct-tail same_tuple (span_between e.tuple rev 0) (spans_of rev events) apart) r other here there agrees

-- ---- their rowids

not_taken : (rows : List Row) (top id : ℕ) (cells : Row) → AllByRecursion (IsNumbered top) rows → top < id → is_taken rows (Int (pos id) ∷ cells) ≡ false
not_taken rows top id cells ids above = false_from_ne_true _ (λ taken.
    let found = some_has (λ r. is_eq (value_cmp (rowid r) (Int (pos id)))) rows taken in
    let n = all_has (IsNumbered top) rows found.0 ids found.1 in
    both_ways _ (other_number n.0 id (omega (arith, n.2, above))) (ap (λ (v : Value). is_eq (value_cmp v (Int (pos id)))) (sym n.1) ∙ found.2))

fresh_rows : (rows : List Row) (top rev first : ℕ) (events : List StoredEvent) → AllByRecursion (IsNumbered top) rows → top < first → are_fresh rows (new_rows rev first events) ≡ true
fresh_rows rows top rev first [] ids above = refl
fresh_rows rows top rev first (e ∷ events) ids above =
    let row = new_row rev first e in
    let more = all-put_row (IsNumbered first) row rows (first, refl, omega arith) (rows_more top first (omega (arith, above)) rows ids) in
    and_from _ _ (ap not (not_taken rows top first (span_cells (span_between e.tuple rev 0)) ids above)) (fresh_rows (put_row row rows) first rev (first + 1) events more (omega arith))

module _ (old : State) (rev first : ℕ) (events : List StoredEvent) (h : Contents) (top : ℕ) (has : Holds old.now h) (sound : IsDatabase old.now) (ids : AreNumberedTo top old.now.trees) (above : top < first) (low : first + length events ≤ 2 ^ 63)
    (positive : 0 < rev) (began : AllByRecursion (λ s. BeganBefore s rev h) (spans_of rev events)) (distinct : IsDistinct same_tuple (spans_of rev events)) (unlimited : old.step_limit ≡ None)
    (short : AllByRecursion IsShort (spans_of rev events)) where
  abbrev params : Row
  params = all_values rev first events

  abbrev db : Trees
  db = old.now.trees

  unique_before : Keeps Unique schema db
  unique_before = (subst (λ k. IsSound k db) has.schema_is sound).obeys.rules Unique

  span_of : (r : Row) → Has (db 0) r → Shaped span_cells h.spans top r
  span_of = shaped span_cells h.spans top (db 0) has.spans ids.spans

  -- no key is there yet
  new_key : (r n : Row) → Has (db 0) r → Has (new_rows rev first events) n → ¬ (agree plain key_columns r key_columns n ≡ true)
  new_key r n there here agrees =
      let x = span_of r there in
      let m = new_is rev first events n here in
      let s = span_between m.tuple rev 0 in
      let both : agree plain key_columns (Int (pos x.id) ∷ span_cells x.x) key_columns (Int (pos m.id) ∷ span_cells s) ≡ true =
      sym (ap (λ (y : Row). agree plain key_columns (Int (pos x.id) ∷ span_cells x.x) key_columns y) m.is) ∙ (sym (ap (λ (y : Row). agree plain key_columns y key_columns n) x.is) ∙ agrees) in
      let same = one_key x.id m.id x.x s both in
      let before : x.x.added < rev = all_has _ h.spans x.x (all_has (λ t. BeganBefore t rev h) (spans_of rev events) s began m.among) x.among same.0 in
      absurd (omega (arith, before, same.1))

  module _ (rows : List Row) (given : rows ≡ new_rows rev first events) where
    abbrev edit : Edit
    edit = edit_of db row_table [] Chosen 0 rows

    news : edit.news ≡ new_rows rev first events
    news = news_are db rev first events rows given

    as_new : (r : Row) → Has edit.news r → IsNew rev first events r
    as_new r there = new_is rev first events r (subst (λ all. Has all r) news there)

    origin : (r : Row) → Has (edited db edit) r → Has (new_rows rev first events) r ⊎ Has (db 0) r
    origin r there = put_all_has (new_rows rev first events) (db 0) r (subst (λ all. Has (put_all (db 0) all) r) news there)

    met : (r other : Row) → Has (new_rows rev first events) r ⊎ Has (db 0) r → Has (new_rows rev first events) other ⊎ Has (db 0) other → ¬ ((agree plain key_columns other key_columns r && differ (rowid other) (rowid r)) ≡ true)
    met r other (inl here) (inl also) both =
        let parts = and_parts (agree plain key_columns other key_columns r) _ both in
        let n = new_is rev first events r here in
        let same : rowid r ≡ rowid other = same_row rev first events distinct r other here also parts.0 in
        both_ways _ (same_rowid_value n.id) (ap (λ (x : Row). differ (rowid x) (rowid x)) (sym n.is) ∙ (ap (λ (v : Value). differ v (rowid r)) same ∙ parts.1))
    met r other (inl here) (inr there) both = new_key other r there here (and_parts (agree plain key_columns other key_columns r) _ both).0
    met r other (inr there) (inl here) both = new_key r other there here (agree_back plain key_columns key_columns other r (and_parts (agree plain key_columns other key_columns r) _ both).0)
    met r other (inr there) (inr also) both =
        both_ways _ (not-true _ (and_parts _ _ (all_has _ (db 0) r unique_before.0 there)).0) (some_from (λ x. agree plain key_columns x key_columns r && differ (rowid x) (rowid r)) (db 0) other also both)

    apart : (r : Row) → Has (edited db edit) r → clashes plain key_columns (edited db edit) r ≡ false
    apart r there = false_from_ne_true _ (λ clash.
        let other = some_has (λ x. agree plain key_columns x key_columns r && differ (rowid x) (rowid r)) (edited db edit) clash in met r other.0 (origin r there) (origin other.0 other.1) other.2)

    small_row : (row : Row) → Has edit.news row → ¬ IsOversized schema row_table row
    small_row row there (inl big) =
        let n = as_new row there in
        let s = span_between n.tuple rev 0 in
        big (subst (IsStorableRow 0) (sym n.is) (short_span n.id s (all_has IsShort (spans_of rev events) s short n.among)))
    small_row row there (inr (index, listed, owned, big)) =
        let n = as_new row there in
        let s = span_between n.tuple rev 0 in
        elim (subst (λ (all : List Index). Has all index) indexes_are listed) [
          | inl is ↦ big (subst (λ (i : Index). IsStorable (index_reals 0 i.columns) (entry_of i.columns row)) (sym is)
              (subst (λ (r : Row). IsStorable 0 (entry_of key_columns r)) (sym n.is) (short_span_key n.id s (all_has IsShort (spans_of rev events) s short n.among))))
          | inr (inl is) ↦ absurd (omega (arith, owned, ap (λ (i : Index). i.table) is))
          | inr (inr none) ↦ none
        ]

    spans_pass : Passes schema db edit
    spans_pass = record {
      typed = test_from _ edit.news (λ r there. rw (as_new r there).is refl);
      present = test_from _ edit.news (λ r there. rw (as_new r there).is refl);
      checked = test_from _ edit.news (λ r there. let n = as_new r there in rw n.is (checks_pass n.id (span_between n.tuple rev 0) positive refl));
      fresh = rw news (fresh_rows (db 0) top rev first events ids.spans above);
      unique = (all_from _ (edited db edit) (λ r there. and_from _ _ (ap not (apart r there)) refl), (all_true (db 2), (unique_before.1.1.0, tt)));
      keyed = test_from _ edit.news (λ r there. rw (as_new r there).is refl);
      fit = test_from _ edit.news (λ r there. let n = as_new r there in rw n.is (lt-ltb n.id (2 ^ 63) (omega (arith, n.below, low))));
      referred = row_refers _ false;
      small = small_row;
    }

  abbrev task : Task
  task = record { limit = old.step_limit; keys = Enforced; schema = schema; table = row_table; params = params }

  abbrev source : Source
  source = Values (row_terms 1 (length events)) 7

  spans_source_goes : NeverStops (Sourced old.step_limit (record { schema = schema; trees = db }) (params_of rev first events) source)
  spans_source_goes None none = none
  spans_source_goes (Some e) (inl mistyped) = true≢false (sym (source_accepted rev first events) ∙ mistyped.1)
  spans_source_goes (Some e) (inr limited) = true≢false (sym (rw unlimited at limited.1))

  spans_inserts_goes : NeverStops (Inserts task source db)
  spans_inserts_goes stop (inl h) = spans_source_goes h.0 h.1
  spans_inserts_goes stop (inr (rows, given, inl counted)) = gives_goes _ counted.0 counted.1
  spans_inserts_goes stop (inr (rows, given, inr (counter, counted, inl refused))) =
      let same : rows ≡ new_rows rev first events = given.1 ∙ source_rows rev first events in edit_goes schema db (edit rows same) (spans_pass rows same) refl refused.0 refused.1
  spans_inserts_goes stop (inr (rows, given, inr (counter, counted, inr (mid, went, inl over)))) = gives_goes _ over.0 over.1
  spans_inserts_goes stop (inr (rows, given, inr (counter, counted, inr (mid, went, inr done)))) = gives_goes _ stop done.2

  spans_go : (text : List ℕ) → ¬ Refuses old params text (Insert 0 source)
  spans_go text (stop, does) =
      let d = subst (λ k. Does old.step_limit (mode_of old) params (record old.now { schema = k }) text None (Insert 0 source) (Err stop)) has.schema_is does in
      then_goes (Inserts task source db) (Concludes task (mode_of old) None) spans_inserts_goes (λ w wrote. concludes_goes task refl (mode_of old) w) stop d

  -- It fails where the device does, or memory is wanting.
  pub spans_caused : (text : List ℕ) → AddsRows (length events) text → (new : State) (e : Error) → e ≢ SqliteFailure OutOfMemory → IsTrue old.is_open → Executes text params old new (Err e) → MoreFaults old.faults new.faults
  spans_caused text adds new e other is_open ran =
      let count : 5 * length events + 1 ≡ length params = omega (arith, rows_length first events) in
      let fits : Fits (length params) text (understood schema text) = subst (λ n. Fits n text (understood schema text)) count adds.fits in
      elim (fails_as text params old new schema has.schema_is (Insert 0 source) adds.is adds.plain fits tt e other is_open ran) [ inl more ↦ more | inr refused ↦ absurd (spans_go (statement_of text (understood schema text)) refused) ]
