-- Why the reading of a whole table fails, and what it leaves.
use Rattle.std.proofs.Common.{◌≡◌, ◌≢◌, ◌⊎◌, ◌≤◌, ◌<◌, ◌-◌, ◌^◌, inl, inr, ℕ, pos, List, [], ◌∷◌, ◌++◌, map, drop, length, slice_index_or, None, Some, Option, Ok, Err, Result, IfErr, IsErrAnd, OnErr, IsTrue, refl, sym, ap, subst, ◌∙◌, arith}
use Rattle.std.specs.List.{AllByRecursion}
use Rattle.std.specs.List.Sorted.{IsPermutation}
use Rattle.sqlite_disk.specs.Disk.{MoreFaults}
use Rattle.sqlite_schema.specs.declared.command.Returning.{Returning}
use Rattle.sqlite_resolve.specs.declared.compiled.Compiled.{Compiled}
use Rattle.sqlite_rules.proofs.ListLemmas.{all_has, all_from}
use Rattle.sqlite_trees.proofs.ListLemmas.{all-map, all_from_map, all-permutation, all-get_or}
use Rattle.sqlite_value.specs.declared.keys.Key.{Key}
use Rattle.sqlite.specs.declared.types.Value.{Value}
use Rattle.sqlite.specs.declared.types.Value.TheVariants.{Null, Int}
use Rattle.sqlite.specs.Order.{Row, column}
use Rattle.sqlite.specs.Tree.{Trees}
use Rattle.sqlite.specs.Term.{Term, eval_all}
use Rattle.sqlite.specs.Query.{IsAnswer}
use Rattle.sqlite.specs.Effect.{Database}
use Rattle.sqlite.specs.State.{State, HasCleanDisk, IsUnchanged, IsRolledBack, IsNotRun, FailsToQuery, FailsToShow, Fails, Shown}
use Rattle.sqlite.specs.Clock.{timed}
use Rattle.sqlite.specs.declared.error.Error.{Error}
use Rattle.sqlite.specs.declared.error.Error.TheVariants.{SqliteFailure}
use Rattle.sqlite.specs.declared.error.ErrorCode.TheVariants.{OutOfMemory}
use Rattle.sqlite.specs.Store.{Ghosts}
use Rattle.sqlite.specs.Held.{Held, state}
use Rattle.sqlite.specs.Given.{IsRefused, HasGiven, Advances, FailsToAdvance}
use Rattle.sqlite_exec.proofs.SeenLemmas.{all_front}
use Rattle.sqlite.proofs.Callers.{reads_as, begins_as, given_begin}
use Rattle.sqlite_tables.specs.Format.{schema}
use Rattle.sqlite_tables.specs.Tables.{Span, ConfigRow, Entry, Contents, Holds, HasRowids, AsksRowids, span_cells, config_with_rowid, config_cells, entry_cells, id_cells, two, six}
use Rattle.sqlite_tables.specs.Numbered.{IsNumbered}
use Rattle.sqlite_tables.specs.Steps.{IsLeft}
use Rattle.sqlite_tables.specs.Caused.{IsReady, HasFailed}
use Rattle.sqlite_tables.specs.Reading.{HasFormat, AreTexts, CanLoad, HasNumber, ShowsSpan, ShowsConfig, ShowsEntry, ShowsId}
use Rattle.sqlite_tables.proofs.Texts.{scan, rows_text, rows_query, rows_is, rows_plain, rows_unlisted, configs_text, configs_query, configs_is, configs_plain, configs_unlisted, read_text, entries_query, entries_is, entries_plain, entries_unlisted, ids_query, reads_ids}
use Rattle.sqlite_tables.proofs.Scan.{scan_rows}
use Rattle.sqlite_tables.proofs.Fixed.Queries.{spans_fail, configs_fail, entries_fail, ids_fail}
use Rattle.sqlite_tables.proofs.Update.{filter_all_true}
use Rattle.sqlite_tables.proofs.Streaming.{HasRead}

-- ---- what is left

pub left_same : (old new : State) → IsUnchanged old new → IsLeft old new
left_same old new same = record { was_open = same.0.was_open; now = inl same.0.now_is; committed = same.0.committed_is }

left_back : (old new : State) → IsRolledBack old new → IsTrue new.is_open → IsLeft old new
left_back old new back is = record { was_open = back.was_open is; now = inr (back.undone is).0; committed = (back.undone is).1 }

pub left_then : (a b c : State) → IsLeft a b → IsLeft b c → IsLeft a c
left_then a b c first next = record {
  was_open = first.was_open;
  now = elim next.now [ inl same ↦ elim first.now [ inl before ↦ inl (same ∙ before) | inr back ↦ inr (same ∙ back) ] | inr back ↦ inr (back ∙ first.committed) ];
  committed = next.committed ∙ first.committed;
}

pub left_at : (old new last : State) → IsLeft old new → new ≡ last → IsLeft old last
left_at old new last left is = subst (IsLeft old) is left

pub failed_at : (old new last : State) → HasFailed old new CanLoad → new ≡ last → HasFailed old last CanLoad
failed_at old new last failed is = subst (λ s. HasFailed old s CanLoad) is failed

not_run_left : (old new : State) (sql : List ℕ) (params : Row) (e : Error) → IsNotRun old new sql params e → IsTrue new.is_open → IsLeft old new
unfolding IsNotRun
not_run_left old new sql params e (inl h) is = left_same old new h.1
not_run_left old new sql params e (inr h) is = left_back old new h.3 is

not_shown_left : (old new : State) (sql : List ℕ) (c : Compiled) (params : Row) (e : Error) (what : Option Returning) → FailsToShow old new sql c params e what → IsTrue new.is_open → IsLeft old new
not_shown_left old new sql c params e None h is = left_same old new h.3
not_shown_left old new sql c params e (Some what) (inl h) is = left_same old new h.1
not_shown_left old new sql c params e (Some what) (inr h) is = left_back old new h.3 is

-- a query that fails leaves what was held, or what was committed
pub failed_left : (sql : List ℕ) (params : Row) (old new : State) (e : Error) → FailsToQuery sql params old new e → IsTrue new.is_open → IsLeft old new
unfolding FailsToQuery
failed_left sql params old new e (inl h) is = not_run_left old new sql params e h is
failed_left sql params old new e (inr h) is = not_shown_left old new sql h.0 (timed params h.0.formats h.1.now) e h.0.returning h.2 is

-- ---- one reading after another

pub ready_after : (old mid : State) → IsUnchanged old mid → mid.step_limit ≡ old.step_limit → IsReady old → IsReady mid
ready_after old mid same limit ready = record { is_open = same.0.is_open; unlimited = limit ∙ ready.unlimited }

pub more_after : (a b c : ℕ) → a ≤ b → MoreFaults b c → MoreFaults a c
more_after a b c low more = grind (arith, low, more)

-- ---- what a query of a whole table shows

module _ {X : Type 0} (cells shows : X → Row) (Good : X → Type 0) (part shown : Row → Row) (tells : (r : Row) (x : X) → part r ≡ cells x → shown r ≡ shows x) where
  pub each_shown : (xs : List X) (db : List Row) → IsPermutation (map cells xs) (map part db) → AllByRecursion Good xs → AllByRecursion (λ r. (x : X) × Good x × (shown r ≡ shows x)) db
  each_shown xs db same good =
      let P : Row → Type 0 = λ r. (x : X) × Good x × (r ≡ cells x) in
      let ones : AllByRecursion P (map cells xs) = all-map P cells xs (all_from _ xs (λ x there. (x, all_has Good xs x good there, refl))) in
      let parts : AllByRecursion (λ r. P (part r)) db = all_from_map P part db (all-permutation P _ _ same ones) in
      all_from _ db (λ r there. let it = all_has (λ s. P (part s)) db r parts there in (it.0, it.1, tells r it.0 it.2))

all_shown : (P : Row → Type 0) (t : ℕ) (project : List Term) (order : List (Term × Key)) (db : Trees) (rows : List Row) → IsAnswer (scan t [] project order) db [] rows
    → AllByRecursion (λ r. P (eval_all project ([] ∷ r ∷ []))) (db t) → AllByRecursion P rows
all_shown P t project order db rows answer each =
    let shown : Row → Row = λ r. eval_all project ([] ∷ r ∷ []) in
    let all : IsPermutation (map shown (db t)) rows = subst (λ l. IsPermutation (map shown l) rows) (filter_all_true (db t)) (scan_rows t [] project order db [] rows answer) in
    all-permutation P _ _ all (all-map P shown (db t) each)

span_tells : (r : Row) (s : Span) → drop 1 r ≡ span_cells s → eval_all rows_query.project ([] ∷ r ∷ []) ≡ span_cells s
span_tells [] s e = ap six e
span_tells (id ∷ cells) s e = ap six e

entry_tells : (r : Row) (x : Entry) → drop 1 r ≡ entry_cells x → eval_all entries_query.project ([] ∷ r ∷ []) ≡ entry_cells x
entry_tells [] x e = ap two e
entry_tells (id ∷ cells) x e = ap two e

config_tells : (r : Row) (c : ConfigRow) → r ≡ config_with_rowid c → eval_all configs_query.project ([] ∷ r ∷ []) ≡ config_cells c
config_tells r c e = ap (λ (row : Row). eval_all configs_query.project ([] ∷ row ∷ [])) e

map_same : (rows : List Row) → rows ≡ map (λ r. r) rows
map_same [] = refl
map_same (r ∷ rows) = ap (λ (more : List Row). r ∷ more) (map_same rows)

module _ (db : Database) (can : CanLoad db) where
  span_rows : AllByRecursion (λ r. ShowsSpan (eval_all rows_query.project ([] ∷ r ∷ []))) (db.trees 0)
  span_rows = each_shown span_cells span_cells AreTexts (drop 1) _ span_tells can.contents.spans (db.trees 0) can.holds.spans can.readable.spans

  entry_rows : AllByRecursion (λ r. ShowsEntry (eval_all entries_query.project ([] ∷ r ∷ []))) (db.trees 3)
  entry_rows = each_shown entry_cells entry_cells _ (drop 1) _ entry_tells can.contents.entries (db.trees 3) can.holds.entries can.readable.entries

  config_rows : AllByRecursion (λ r. ShowsConfig (eval_all configs_query.project ([] ∷ r ∷ []))) (db.trees 2)
  config_rows =
      each_shown config_with_rowid config_cells _ (λ r. r) _ config_tells can.contents.configs (db.trees 2) (subst (IsPermutation (map config_with_rowid can.contents.configs)) (map_same (db.trees 2)) can.holds.configs) can.readable.configs

  numbered_rows : (tree : ℕ) → (tree ≡ 0) ⊎ ((tree ≡ 2) ⊎ (tree ≡ 3)) → AllByRecursion (λ r. ShowsId (eval_all (ids_query tree).project ([] ∷ r ∷ []))) (db.trees tree)
  numbered_rows tree (inl first) = subst (λ t. AllByRecursion (λ r. ShowsId (column r 0 ∷ [])) (db.trees t)) (sym first) (all_from _ (db.trees 0) (λ r there. let it = all_has (IsNumbered can.top) _ r can.numbered.spans there in (it.0, ap (λ (v : Value). v ∷ []) it.1)))
  numbered_rows tree (inr (inl second)) =
      let rows = each_shown config_with_rowid config_with_rowid _ (λ r. r) (λ r. r) (λ r c e. e) can.contents.configs (db.trees 2)
      (subst (IsPermutation (map config_with_rowid can.contents.configs)) (map_same (db.trees 2)) can.holds.configs) can.readable.configs in
      subst (λ t. AllByRecursion (λ r. ShowsId (column r 0 ∷ [])) (db.trees t)) (sym second)
      (all_from _ (db.trees 2) (λ r there. let it = all_has _ (db.trees 2) r rows there in (it.0.rev, ap (λ (row : Row). column row 0 ∷ []) it.2)))
  numbered_rows tree (inr (inr third)) = subst (λ t. AllByRecursion (λ r. ShowsId (column r 0 ∷ [])) (db.trees t)) (sym third) (all_from _ (db.trees 3) (λ r there. let it = all_has (IsNumbered (2 ^ 63 - 1)) _ r can.numbered.entries there in (it.0, ap (λ (v : Value). v ∷ []) it.1)))

module _ (old new : State) (rows : List Row) (can : CanLoad old.now) where
  pub configs_shown : Shown configs_text [] old new rows → AllByRecursion ShowsConfig rows
  configs_shown did =
      let answer = (reads_as configs_text [] old new schema can.holds.schema_is _ configs_is configs_plain configs_unlisted rows did).answer Null in
      all_shown ShowsConfig 2 configs_query.project configs_query.order _ rows answer (config_rows old.now can)

  pub entries_shown : Shown read_text [] old new rows → AllByRecursion ShowsEntry rows
  entries_shown did =
      let answer = (reads_as read_text [] old new schema can.holds.schema_is _ entries_is entries_plain entries_unlisted rows did).answer Null in
      all_shown ShowsEntry 3 entries_query.project entries_query.order _ rows answer (entry_rows old.now can)

  pub ids_shown : (sql : List ℕ) (tree : ℕ) → AsksRowids sql tree → Shown sql [] old new rows → AllByRecursion ShowsId rows
  ids_shown sql tree asks did =
      let it = reads_ids sql tree asks in
      let answer = (reads_as sql [] old new schema can.holds.schema_is _ it.is it.plain it.unlisted rows did).answer Null in
      all_shown ShowsId tree (ids_query tree).project (ids_query tree).order _ rows answer (subst (λ l. AllByRecursion (λ r. ShowsId (column r 0 ∷ [])) l) (whole tree asks) (numbered_rows old.now can tree (place asks)))
    where
      place : AsksRowids sql tree → (tree ≡ 0) ⊎ ((tree ≡ 2) ⊎ (tree ≡ 3))
      place (inl h) = inl h.1
      place (inr (inl h)) = inr (inl h.1)
      place (inr (inr h)) = inr (inr h.1)

      -- no table of the statement stands over the tree
      whole : (t : ℕ) → AsksRowids sql t → old.now.trees t ≡ Rattle.sqlite_sql.specs.Program.overlay old.now.trees [] t
      whole t (inl h) = subst (λ k. old.now.trees k ≡ Rattle.sqlite_sql.specs.Program.overlay old.now.trees [] k) (sym h.1) refl
      whole t (inr (inl h)) = subst (λ k. old.now.trees k ≡ Rattle.sqlite_sql.specs.Program.overlay old.now.trees [] k) (sym h.1) refl
      whole t (inr (inr h)) = subst (λ k. old.now.trees k ≡ Rattle.sqlite_sql.specs.Program.overlay old.now.trees [] k) (sym h.1) refl

-- ---- the numbers of such rows

abbrev number_in : (row cells : Row) (at n : ℕ) → row ≡ cells → at < length cells → column cells at ≡ Int (pos n) → HasNumber row at
number_in row cells at n is low value = (subst (λ (r : Row). at < length r) (sym is) low, n, ap (λ (r : Row). column r at) is ∙ value)

pub config_number : (row : Row) → ShowsConfig row → HasNumber row 0
config_number row it = number_in row (config_cells it.0) 0 it.0.rev it.2 (omega arith) refl

pub entry_number : (row : Row) → ShowsEntry row → HasNumber row 1
entry_number row it = number_in row (entry_cells it.0) 1 it.0.value it.2 (omega arith) refl

pub span_added : (row : Row) → ShowsSpan row → HasNumber row 4
span_added row it = number_in row (span_cells it.0) 4 it.0.added it.2 (omega arith) refl

pub span_removed : (row : Row) → ShowsSpan row → HasNumber row 5
span_removed row it = number_in row (span_cells it.0) 5 it.0.removed it.2 (omega arith) refl

pub id_number : (row : Row) → ShowsId row → HasNumber row 0
id_number row it = number_in row (id_cells it.0) 0 it.0 it.1 (omega arith) refl

pub id_shown : (rows : List Row) (at : ℕ) (row : Row) → row ≡ slice_index_or rows at row → at < length rows → AllByRecursion ShowsId rows → HasNumber row 0
id_shown rows at row is low all = id_number row (subst ShowsId (sym is) (all-get_or ShowsId rows at row all low))

-- ---- why a reading is refused

pub ids_caused : (sql : List ℕ) → (tree : ℕ) × AsksRowids sql tree → (old new : State) (e : Error) → FailsToQuery sql [] old new e → e ≢ SqliteFailure OutOfMemory → HasFailed old new CanLoad
ids_caused sql asks old new e fails other ready can = ids_fail old new can.holds.schema_is ready.unlimited e other ready.is_open sql asks.0 asks.1 fails

pub spans_caused : (old new : State) (e : Error) → FailsToQuery rows_text [] old new e → e ≢ SqliteFailure OutOfMemory → HasFailed old new CanLoad
spans_caused old new e fails other ready can = spans_fail old new can.holds.schema_is ready.unlimited e other ready.is_open fails

pub configs_caused : (old new : State) (e : Error) → FailsToQuery configs_text [] old new e → e ≢ SqliteFailure OutOfMemory → HasFailed old new CanLoad
configs_caused old new e fails other ready can = configs_fail old new can.holds.schema_is ready.unlimited e other ready.is_open fails

pub entries_caused : (old new : State) (e : Error) → FailsToQuery read_text [] old new e → e ≢ SqliteFailure OutOfMemory → HasFailed old new CanLoad
entries_caused old new e fails other ready can = entries_fail old new can.holds.schema_is ready.unlimited e other ready.is_open fails

-- the tree that is asked for has rowids
pub keyed_in : (sql : List ℕ) (tree : ℕ) → AsksRowids sql tree → (db : Database) {h : Contents} → Holds db h → HasRowids (db.trees tree)
keyed_in sql tree (inl h) db holds = subst (λ t. HasRowids (db.trees t)) (sym h.1) holds.spans_rowids
keyed_in sql tree (inr (inl h)) db holds = subst (λ t. HasRowids (db.trees t)) (sym h.1) holds.configs_rowids
keyed_in sql tree (inr (inr h)) db holds = subst (λ t. HasRowids (db.trees t)) (sym h.1) holds.entries_rowids

-- rows that are there are read
pub read_caused : (P : Row → Type 0) (old new : State) (rows all : List Row) → all ≡ rows → (CanLoad old.now → AllByRecursion P rows) → (e : Error) → (e ≢ SqliteFailure OutOfMemory → ¬ AllByRecursion P all) → e ≢ SqliteFailure OutOfMemory
    → HasFailed old new CanLoad
read_caused P old new rows all same shown e unread other ready can = absurd (unread other (subst (AllByRecursion P) (sym same) (shown can)))

-- an error that is handed on
pub handed : {A : Type 0} (r : Result A Error) (e : Error) (P : Error → Type 0) → IsErrAnd r (λ x. x ≡ e) → P e → IfErr r P
handed (Ok a) e P is h = tt
handed (Err x) e P is h = subst P (sym is) h

pub if_err : {A : Type 0} (r : Result A Error) (P Q : Error → Type 0) → ((e : Error) → P e → Q e) → IfErr r P → IfErr r Q
if_err (Ok a) P Q f h = tt
if_err (Err e) P Q f h = f e h

-- after a reading that changed nothing
pub then_caused : (a b c : State) (e : Error) → (a.now.schema ≡ schema → IsUnchanged a b) → a.faults ≤ b.faults → b.step_limit ≡ a.step_limit → (e ≢ SqliteFailure OutOfMemory → HasFailed b c CanLoad) → e ≢ SqliteFailure OutOfMemory
    → HasFailed a c CanLoad
then_caused a b c e same counts limit failed other ready can =
    let still = same can.holds.schema_is in
    more_after a.faults b.faults c.faults counts (failed other (ready_after a b still limit ready) (subst CanLoad (sym still.0.now_is) can))

pub then_left : (a b c : State) → (a.now.schema ≡ schema → IsUnchanged a b) → (b.now.schema ≡ schema → IsTrue c.is_open → IsLeft b c) → a.now.schema ≡ schema → IsTrue c.is_open → IsLeft a c
then_left a b c same next has is =
    let still = same has in
    left_then a b c (left_same a b still) (next (ap (λ (d : Database). d.schema) still.0.now_is ∙ has) is)

-- ---- spans one at a time

pub spans_given : {S : Type 0} (g : Ghosts S) (h : Held S) (rows : List Row) → CanLoad (state g h).now → HasGiven g rows_text [] h rows → AllByRecursion ShowsSpan rows
spans_given g h rows can given =
    let begun = begins_as rows_text [] (state g h) (state g h) schema can.holds.schema_is _ rows_is rows_plain rows_unlisted rows (given_begin g rows_text [] h rows given) in
    let whole = all_shown ShowsSpan 0 rows_query.project rows_query.order _ (rows ++ begun.1.0) (begun.1.1 Null) (span_rows (state g h).now can) in
    all_front ShowsSpan rows begun.1.0 whole

-- a query that does not begin
pub refused_fails : {S X : Type 0} (g : Ghosts S) (sql : List ℕ) (old new : Held S) (r : Result X Error) (e : Error) → r ≡ Err e → OnErr r (IsRefused g sql [] old r new) → HasCleanDisk (state g new)
    → FailsToQuery sql [] (state g old) (state g new) e
refused_fails g sql old new r e is held clean =
    let it = subst (λ x. OnErr x (IsRefused g sql [] old r new)) is held in
    subst (λ x. IfErr x (FailsToQuery sql [] (state g old) (state g new))) is (it.err clean)

last_one : (rows : List Row) (row : Row) → AllByRecursion ShowsSpan (rows ++ row ∷ []) → ShowsSpan row
last_one [] row all = all.0
last_one (r ∷ rows) row all = last_one rows row all.1

module _ {S : Type 0} (g : Ghosts S) (old mid new : Held S) (xs : List Span) (counts : (state g old).faults ≤ (state g mid).faults) (limit : (state g mid).step_limit ≡ (state g old).step_limit)
    (read : HasFormat g old → HasRead g old mid xs) where
  -- the next row is not given
  pub advance_caused : (e : Error) → FailsToAdvance g mid new e → e ≢ SqliteFailure OutOfMemory → HasFailed (state g old) (state g new) CanLoad
  advance_caused e fails other ready can =
      let so_far = read can.holds.schema_is in
      then_caused (state g old) (state g mid) (state g new) e (λ has. (read has).same) counts limit (spans_caused (state g mid) (state g new) e (fails rows_text [] so_far.rows so_far.given)) other ready can

  -- a row that is given is read
  pub span_caused : (row : Row) → Advances g mid new (Some row) → IsUnchanged (state g mid) (state g new) → (e : Error) → (e ≢ SqliteFailure OutOfMemory → ¬ ShowsSpan row) → e ≢ SqliteFailure OutOfMemory
      → HasFailed (state g old) (state g new) CanLoad
  span_caused row on same e unread other ready can =
      let so_far = read can.holds.schema_is in
      let now : (state g new).now ≡ (state g old).now = same.0.now_is ∙ so_far.same.0.now_is in
      let all = spans_given g new (so_far.rows ++ row ∷ []) (subst CanLoad (sym now) can) (on rows_text [] so_far.rows so_far.given) in
      absurd (unread other (last_one so_far.rows row all))

  pub read_left : IsUnchanged (state g mid) (state g new) → HasFormat g old → IsLeft (state g old) (state g new)
  read_left same has = left_then (state g old) (state g mid) (state g new) (left_same (state g old) (state g mid) (read has).same) (left_same (state g mid) (state g new) same)

  pub advance_left : (e : Error) → Fails (state g mid) (state g new) ⊥ e ⊎ IsUnchanged (state g mid) (state g new) → HasFormat g old → IsTrue (state g new).is_open → IsLeft (state g old) (state g new)
  advance_left e (inl fails) has is = left_then (state g old) (state g mid) (state g new) (left_same (state g old) (state g mid) (read has).same) (left_back (state g mid) (state g new) fails.3 is)
  advance_left e (inr same) has is = read_left same has
