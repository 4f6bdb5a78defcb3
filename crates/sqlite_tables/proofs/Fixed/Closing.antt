-- The UPDATE that ends the open span of a tuple is refused by no rule.
use Rattle.std.proofs.Common.{◌≡◌, ◌≢◌, ◌≤◌, ◌<◌, ◌^◌, inl, inr, ℕ, pos, Bool, true, false, ◌&&◌, not, List, [], ◌∷◌, map, filter, Some, None, Err, IsTrue, refl, sym, ap, subst, ◌∙◌, arith, true≢false}
use Rattle.std.specs.List.{list_all}
use Rattle.std.specs.List.Sorted.{IsPermutation}
use Rattle.std.specs.Prelude.{◌==◌, nat_lt}
use Rattle.std.specs.Str.{bytes_eq}
use Rattle.std.proofs.lemmas.Bool.{and_parts, and_from, not-true, lt-ltb, or_right}
use Rattle.sqlite_disk.specs.Disk.{MoreFaults}
use Rattle.sqlite.specs.declared.types.Value.TheVariants.{Null, Int}
use Rattle.sqlite.specs.Order.{Row, column}
use Rattle.sqlite.specs.Tree.{Trees, rowid}
use Rattle.sqlite.specs.Term.{col, eval_all, holds}
use Rattle.sqlite.specs.View.{IsStorable, IsStorableRow}
use Rattle.sqlite.specs.Command.TheVariants.{Update}
use Rattle.sqlite.specs.Cast.{cast_row}
use Rattle.sqlite.specs.Edit.{Edit, edit_of, edited, IsOversized}
use Rattle.sqlite.specs.Rowids.TheVariants.{Given}
use Rattle.sqlite.specs.Effect.{IsDatabase}
use Rattle.sqlite.specs.Listing.{understood}
use Rattle.sqlite.specs.State.{State, Executes, mode_of}
use Rattle.sqlite.specs.declared.error.Error.{Error}
use Rattle.sqlite.specs.declared.error.Error.TheVariants.{SqliteFailure}
use Rattle.sqlite.specs.declared.error.ErrorCode.TheVariants.{OutOfMemory}
use Rattle.sqlite.specs.Does.{Does, Concludes}
use Rattle.sqlite.specs.Rows.{Queried, Updates, Task}
use Rattle.sqlite.proofs.Callers.{statement_of}
use Rattle.sqlite_tied.specs.Compute.{everything}
use Rattle.sqlite_value.specs.Keys.{plain}
use Rattle.sqlite_sql.specs.Catalog.{entry_of}
use Rattle.sqlite_schema.specs.declared.schema.Index.{Index}
use Rattle.sqlite_schema.specs.Rules.{Keeps, clashes, index_reals}
use Rattle.sqlite_schema.specs.declared.schema.Constraint.TheVariants.{Unique, Check}
use Rattle.sqlite_schema.specs.declared.schema.Keys.TheVariants.{Enforced}
use Rattle.sqlite_catalog.specs.Listing.{IsSound}
use Rattle.sqlite_rules.specs.Lists.{Has}
use Rattle.sqlite_rules.specs.Calls.{ids_of}
use Rattle.sqlite_rules.proofs.ListLemmas.{all_has, all_from, any_has, test_from}
use Rattle.sqlite_tables.specs.Format.{schema, row_table}
use Rattle.sqlite_tables.specs.Tables.{Contents, Span, Holds, span_cells, same_tuple}
use Rattle.sqlite_tables.specs.Numbered.{AreNumberedTo, BeganBefore, IsShort}
use Rattle.sqlite_tables.proofs.Texts.{close_text, close_query, alone, close_is, close_plain, indexes_are}
use Rattle.sqlite_tables.proofs.Insert.{cast_int}
use Rattle.sqlite_tables.proofs.Scan.{scan_rows, text_test}
use Rattle.sqlite_tables.proofs.Close.{close_params}
use Rattle.sqlite_tables.proofs.Update.{source_of}
use Rattle.sqlite_tables.proofs.Fixed.Causes.{Fits}
use Rattle.sqlite_tables.proofs.Fixed.Failing.{Refuses, fails_as}
use Rattle.sqlite_tables.proofs.Fixed.Parts.{NeverStops, Passes, then_goes, gives_goes, edit_goes, concludes_goes}
use Rattle.sqlite_tables.proofs.Fixed.Rewritten.{new_is, fresh_after, apart_after}
use Rattle.sqlite_tables.proofs.Fixed.Shapes.{Shaped, shaped, all_true, row_refers}
use Rattle.sqlite_tables.proofs.Fixed.Checks.{is_positive, checks_pass, same_text}
use Rattle.sqlite_tables.proofs.Fixed.Storable.{short_span, short_span_key}

close_fits : Fits 5 close_text (understood schema close_text)
unfolding understood everything
close_fits = (omega arith, refl, refl)

abbrev passes_close : Row → Row → Bool
passes_close params r = list_all (holds (params ∷ r ∷ [])) close_query.filter

abbrev closes_to : Row → Row → Row
closes_to params r = eval_all (col 1 1 ∷ col 1 2 ∷ col 1 3 ∷ col 1 4 ∷ col 1 5 ∷ col 0 4 ∷ []) (params ∷ r ∷ [])

-- the tuple's span from one revision to another
abbrev from_to : Span → ℕ → ℕ → Span
from_to s added removed = record s { added = added; removed = removed }

pub record HasTexts (x s : Span) : Type 0 where
  pub same : IsTrue (same_tuple x s)
  pub is : (x ≡ from_to s x.added x.removed)

texts_are : (x s : Span) → (bytes_eq x.namespace s.namespace && (bytes_eq x.object s.object && (bytes_eq x.relation s.relation && bytes_eq x.subject s.subject))) ≡ true → HasTexts x s
texts_are x s all =
    let one = and_parts (bytes_eq x.namespace s.namespace) _ all in
    let two = and_parts (bytes_eq x.object s.object) _ one.1 in
    let three = and_parts (bytes_eq x.relation s.relation) _ two.1 in
    record {
      same = all;
      is = rw (← same_text x.namespace s.namespace one.0, ← same_text x.object s.object two.0, ← same_text x.relation s.relation three.0, ← same_text x.subject s.subject three.1) refl;
    }

four : (a b c d e : Bool) → (a && (b && (c && (d && (e && true))))) ≡ true → (a && (b && (c && d))) ≡ true
four true true true true e all = refl
four true true true false e all = all
four true true false d e all = all
four true false c d e all = all
four false b c d e all = all

passing_is : (s : Span) (rev id : ℕ) (x : Span) → passes_close (close_params s rev) (Int (pos id) ∷ span_cells x) ≡ true → HasTexts x s
passing_is s rev id x passes =
    texts_are x s (four (bytes_eq x.namespace s.namespace) (bytes_eq x.object s.object) (bytes_eq x.relation s.relation) (bytes_eq x.subject s.subject) _
    (rw (text_test x.namespace s.namespace, text_test x.object s.object, text_test x.relation s.relation, text_test x.subject s.subject) at passes))

-- what is written in its place
written_is : (s : Span) (rev id : ℕ) (x : Span) → cast_row row_table (Int (pos id) ∷ closes_to (close_params s rev) (Int (pos id) ∷ span_cells x)) ≡ Int (pos id) ∷ span_cells (record x { removed = rev })
written_is s rev id x = rw (cast_int (pos id), cast_int (pos x.added), cast_int (pos rev)) refl

module _ (old : State) (s : Span) (rev : ℕ) (h : Contents) (top : ℕ) (has : Holds old.now h) (sound : IsDatabase old.now) (ids : AreNumberedTo top old.now.trees) (top_fits : top < 2 ^ 63) (began : BeganBefore s rev h)
    (unlimited : old.step_limit ≡ None) (short : IsShort s) where
  abbrev params : Row
  params = close_params s rev

  abbrev db : Trees
  db = old.now.trees

  abbrev P : Row → Bool
  P = passes_close params

  abbrev f : Row → Row
  f = closes_to params

  unique_before : Keeps Unique schema db
  unique_before = (subst (λ k. IsSound k db) has.schema_is sound).obeys.rules Unique

  checks_before : Keeps Check schema db
  checks_before = (subst (λ k. IsSound k db) has.schema_is sound).obeys.rules Check

  span_is : (r : Row) → Has (db 0) r → Shaped span_cells h.spans top r
  span_is = shaped span_cells h.spans top (db 0) has.spans ids.spans

  -- a new row is a span of the tuple that ends at the revision
  record IsEnded (r : Row) : Type 0 where
    id : ℕ
    added : ℕ
    fits : id ≤ top
    low : 0 < added
    below : added < rev
    is : r ≡ Int (pos id) ∷ span_cells (from_to s added rev)

  module _ (rows : List Row) (shown : IsPermutation (map (source_of f) (filter P (db 0))) rows) where
    abbrev edit : Edit
    edit = edit_of db row_table (ids_of rows) Given 1 rows

    ended : (n : Row) → Has edit.news n → IsEnded n
    ended n there =
        let from = new_is db row_table P f rows has.spans_rowids shown n there in
        let r = span_is from.0 from.1 in
        let of_tuple = passing_is s rev r.id r.x (sym (ap P r.is) ∙ from.2) in
        record {
          id = r.id;
          added = r.x.added;
          fits = r.fits;
          low = is_positive r.id r.x (sym (ap (Rattle.sqlite_schema.specs.Rules.passes_checks row_table) r.is) ∙ all_has _ (db 0) from.0 checks_before.0 from.1);
          below = all_has _ h.spans r.x began r.among of_tuple.same;
          is = from.3 ∙ (ap (λ row. cast_row row_table (rowid row ∷ f row)) r.is ∙ (written_is s rev r.id r.x ∙ ap (λ x. Int (pos r.id) ∷ span_cells (record x { removed = rev })) of_tuple.is));
        }

    apart : (r : Row) → Has (db 0) r → clashes plain (1 ∷ 2 ∷ 3 ∷ 4 ∷ 5 ∷ []) (db 0) r ≡ false
    apart r there = not-true _ (and_parts _ _ (all_has _ (db 0) r unique_before.0 there)).0

    same_key : (r : Row) → Has (db 0) r → P r ≡ true → (p : ℕ) → Has (1 ∷ 2 ∷ 3 ∷ 4 ∷ 5 ∷ []) p → column (cast_row row_table (rowid r ∷ f r)) p ≡ column r p
    same_key r there passing p at =
        let e = span_is r there in
        ap (λ row. column (cast_row row_table (rowid row ∷ f row)) p) e.is ∙ (ap (λ row. column row p) (written_is s rev e.id e.x) ∙ (kept e.id e.x p at ∙ ap (λ row. column row p) (sym e.is)))
      where
        kept : (id : ℕ) (x : Span) (p : ℕ) → Has (1 ∷ 2 ∷ 3 ∷ 4 ∷ 5 ∷ []) p → column (Int (pos id) ∷ span_cells (record x { removed = rev })) p ≡ column (Int (pos id) ∷ span_cells x) p
        kept id x p (inl is) = rw is refl
        kept id x p (inr (inl is)) = rw is refl
        kept id x p (inr (inr (inl is))) = rw is refl
        kept id x p (inr (inr (inr (inl is)))) = rw is refl
        kept id x p (inr (inr (inr (inr (inl is))))) = rw is refl
        kept id x p (inr (inr (inr (inr (inr none))))) = absurd none

    small_row : (row : Row) → Has edit.news row → ¬ IsOversized schema row_table row
    small_row row there (inl big) = let e = ended row there in big (subst (IsStorableRow 0) (sym e.is) (short_span e.id (from_to s e.added rev) (still short e.added)))
      where
        still : IsShort s → (added : ℕ) → IsShort (from_to s added rev)
        still it added = record { namespace = it.namespace; object = it.object; relation = it.relation; subject = it.subject }
    small_row row there (inr (index, listed, owned, big)) =
        let e = ended row there in
        elim (subst (λ (all : List Index). Has all index) indexes_are listed) [
          | inl is ↦ big (subst (λ (i : Index). IsStorable (index_reals 0 i.columns) (entry_of i.columns row)) (sym is)
              (subst (λ (r : Row). IsStorable 0 (entry_of (1 ∷ 2 ∷ 3 ∷ 4 ∷ 5 ∷ []) r)) (sym e.is) (short_span_key e.id (from_to s e.added rev) (record { namespace = short.namespace; object = short.object; relation = short.relation; subject = short.subject }))))
          | inr (inl is) ↦ absurd (omega (arith, owned, ap (λ (i : Index). i.table) is))
          | inr (inr none) ↦ none
        ]

    close_passes : Passes schema db edit
    close_passes = record {
      typed = test_from _ edit.news (λ n there. rw (ended n there).is refl);
      present = test_from _ edit.news (λ n there. rw (ended n there).is refl);
      checked = test_from _ edit.news (λ n there.
          let e = ended n there in ap (Rattle.sqlite_schema.specs.Rules.passes_checks row_table) e.is ∙ checks_pass e.id (from_to s e.added rev) e.low (or_right (rev == 0) (nat_lt e.added rev) (lt-ltb e.added rev e.below)));
      fresh = fresh_after db row_table P f rows has.spans_rowids shown;
      unique = (all_from _ (edited db edit) (λ n there. and_from _ _ (ap not (apart_after db row_table P f rows has.spans_rowids shown plain (1 ∷ 2 ∷ 3 ∷ 4 ∷ 5 ∷ []) same_key apart n there)) refl), (all_true (db 2), (unique_before.1.1.0, tt)));
      keyed = test_from _ edit.news (λ n there. rw (ended n there).is refl);
      fit = test_from _ edit.news (λ n there. let e = ended n there in rw e.is (lt-ltb e.id (2 ^ 63) (omega (arith, e.fits, top_fits))));
      referred = row_refers _ _;
      small = small_row;
    }

  close_query_goes : NeverStops (Queried old.step_limit (record { schema = schema; trees = db }) (alone close_query) params)
  close_query_goes None none = none
  close_query_goes (Some e) (inl mistyped) = true≢false mistyped.1
  close_query_goes (Some e) (inr (inl (is, inl grouped))) = grouped
  close_query_goes (Some e) (inr (inl (is, inr folded))) = (any_has _ _ folded).2
  close_query_goes (Some e) (inr (inr limited)) = true≢false (sym (rw unlimited at limited.1))

  abbrev task : Task
  task = record { limit = old.step_limit; keys = Enforced; schema = schema; table = row_table; params = params }

  close_update_goes : NeverStops (Updates task (alone close_query) params db)
  close_update_goes stop (inl h) = close_query_goes h.0 h.1
  close_update_goes stop (inr (rows, answered, inl refused)) =
      let shown = scan_rows 0 close_query.filter close_query.project [] _ params rows (answered.answer Null) in edit_goes schema db (edit rows shown) (close_passes rows shown) refl refused.0 refused.1
  close_update_goes stop (inr (rows, answered, inr went)) = gives_goes _ stop went.2

  close_goes : ¬ Refuses old params (statement_of close_text (understood schema close_text)) (Update 0 (alone close_query))
  close_goes (stop, does) =
      let d = subst (λ k. Does old.step_limit (mode_of old) params (record old.now { schema = k }) (statement_of close_text (understood schema close_text)) None (Update 0 (alone close_query)) (Err stop)) has.schema_is does in
      then_goes (Updates task (alone close_query) params db) (Concludes task (mode_of old) None) close_update_goes (λ w wrote. concludes_goes task refl (mode_of old) w) stop d

  -- It fails where the device does, or memory is wanting.
  pub close_caused : (new : State) (e : Error) → e ≢ SqliteFailure OutOfMemory → IsTrue old.is_open → Executes close_text params old new (Err e) → MoreFaults old.faults new.faults
  close_caused new e other is_open ran = elim (fails_as close_text params old new schema has.schema_is (Update 0 (alone close_query)) close_is close_plain close_fits tt e other is_open ran) [ inl more ↦ more | inr refused ↦ absurd (close_goes refused) ]
