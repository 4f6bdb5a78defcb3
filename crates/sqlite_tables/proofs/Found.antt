-- What is read of the tables stands in them.
use Rattle.std.proofs.Common.{◌≡◌, ◌≤◌, ◌+◌, ℕ, pos, Bool, true, false, List, [], ◌∷◌, map, drop, length, None, Option, Result, IfOk, refl, sym, ap, ◌∙◌, subst, inl, inr, true≢false, arith, IsTrue}
use Rattle.std.specs.List.{AllByRecursion, IsDistinct}
use Rattle.std.specs.Prelude.{slice_index_or}
use Rattle.std.specs.List.Sorted.{IsPermutation, IsStrictlyIncreasing}
use Rattle.std.specs.Ordering.{is_eq, nat_cmp}
use Rattle.std.proofs.ByRecursion.{all_shuffled}
use Rattle.std.proofs.lemmas.Bool.{and_parts}
use Rattle.std.proofs.lemmas.List.Sorted.{IsPermutation-map, IsPermutation-sym}
use Rattle.std.proofs.lemmas.Map.Keys.{IsDistinct-from_sorted, sorted_from_strictly_increasing, IsDistinct-IsPermutation, IsDistinct-head, IsDistinct-tail, IsDistinct-cons}
use Rattle.sqlite.specs.declared.types.Value.{Value}
use Rattle.sqlite.specs.declared.types.Value.TheVariants.{Null, Int, Text, Real, Blob}
use Rattle.sqlite.specs.Order.{Row, column}
use Rattle.sqlite.specs.Tree.{Trees, rowid}
use Rattle.sqlite.specs.Query.{IsAnswer}
use Rattle.sqlite.specs.Command.TheVariants.{Select}
use Rattle.sqlite.specs.View.{is_int}
use Rattle.sqlite_value.proofs.OrderLemmas.{value_cmp-Int}
use Rattle.sqlite.specs.declared.error.Error.{Error}
use Rattle.sqlite.specs.Listing.{understood}
use Rattle.sqlite.specs.Given.{IsPlain}
use Rattle.sqlite.specs.Effect.{Database, IsDatabase, Reads}
use Rattle.sqlite.specs.Term.{eval_all}
use Rattle.sqlite.specs.State.{State, HasCleanDisk, IsLive, IsUnchanged, Survives, Shown}
use Rattle.sqlite.proofs.StateLemmas.{survives_then}
use Rattle.sqlite.proofs.Callers.{reads_as}
use Rattle.sqlite_sql.specs.Ops.{is_null}
use Rattle.sqlite_schema.specs.declared.schema.Column.{Column}
use Rattle.sqlite_schema.specs.declared.schema.Constraint.TheVariants.{Datatype}
use Rattle.sqlite_schema.specs.Rules.{are_typed, Keeps}
use Rattle.sqlite_rules.proofs.ListLemmas.{all_has, all_from}
use Rattle.sqlite_trees.proofs.ListLemmas.{map-map, all-map, all_from_map, all-permutation}
use Rattle.sqlite_tables.specs.Format.{schema, row_table, config_table, state_table}
use Rattle.sqlite_tables.specs.Tables.{Span, ConfigRow, Entry, Holds, Lists, HasRowids, AreKeyed, AsksRowids, same_rowid, span_cells, config_with_rowid, config_cells, entry_cells, id_cells, one, two, six}
use Rattle.sqlite_tables.specs.Stored.{AreSpans, AreConfigs, AreEntries}
use Rattle.sqlite_tables.proofs.Texts.{rows_text, rows_query, rows_is, rows_plain, rows_unlisted, configs_text, configs_query, configs_is, configs_plain, configs_unlisted, read_text, entries_query, entries_is, entries_plain, entries_unlisted, ids_query, ReadsIds, reads_ids, alone}
use Rattle.sqlite_tables.proofs.Rowids.{flips, IsDistinct-none}
use Rattle.sqlite_tables.proofs.Scan.{scan_rows}
use Rattle.sqlite_tables.proofs.Update.{map_congr, filter_all_true}
use Rattle.sqlite_tables.proofs.Sorting.{draw, is_image, natural_as, spans_sorted, configs_sorted, entries_sorted}
use Rattle.sqlite_tables.proofs.LoadLemmas.{same_spans, same_configs, same_entries, read_same, if_ok}

-- ---- of any table

module _ {X : Type 0} (view cells : X → Row) (part shown : Row → Row) where
  parts : (db : List Row) (ys : List X) → map shown db ≡ map view ys → AllByRecursion (λ r. (x : X) → shown r ≡ view x → part r ≡ cells x) db → map part db ≡ map cells ys
  parts [] [] e each = refl
  parts [] (y ∷ ys) e each = absurd (let n = ap length e in omega (arith, n))
  parts (r ∷ db) [] e each = absurd (let n = ap length e in omega (arith, n))
  parts (r ∷ db) (y ∷ ys) e each =
      ap (λ (c : Row). c ∷ map part db) (each.0 y (ap (λ (l : List Row). slice_index_or l 0 (shown r)) e)) ∙ ap (λ (l : List Row). cells y ∷ l) (parts db ys (ap (drop 1) e) each.1)

  -- where what is shown of a row tells its part, the values that were read are the rows' own
  pub stands : (keep : Row → Row) (db rows : List Row) (xs : List X) → ((a b : List X) → IsPermutation (map view a) (map view b) → IsPermutation a b) → ((r : Row) → keep (shown r) ≡ shown r)
      → IsPermutation (map shown db) rows → map keep rows ≡ map view xs → AllByRecursion (λ r. (x : X) → shown r ≡ view x → part r ≡ cells x) db → IsPermutation (map cells xs) (map part db)
  stands keep db rows xs same keeps answer read each =
      let kept : map keep (map shown db) ≡ map shown db = map-map keep shown db ∙ map_congr (λ r. keep (shown r)) shown keeps db in
      let all : IsPermutation (map shown db) (map view xs) = subst (λ a. IsPermutation a (map view xs)) kept (subst (IsPermutation (map keep (map shown db))) read (IsPermutation-map keep _ _ answer)) in
      let back = IsPermutation-sym _ _ all in
      let ys = draw view (map shown db) (all_shuffled (λ y. (x : X) × (y ≡ view x)) (map view xs) (map shown db) back (is_image view xs)) in
      subst (IsPermutation (map cells xs)) (sym (parts db ys.0 ys.1 each)) (IsPermutation-map cells xs ys.0 (same xs ys.0 (subst (IsPermutation (map view xs)) ys.1 back)))

-- ---- a row has no more columns than its table

no_longer : (cs : List Column) (key : Option ℕ) (at : ℕ) (vs : Row) → are_typed key at cs vs ≡ true → length vs ≤ length cs
no_longer [] key at [] h = omega arith
no_longer [] key at (v ∷ vs) h = absurd (true≢false (sym h))
no_longer (c ∷ cs) key at [] h = omega arith
no_longer (c ∷ cs) key at (v ∷ vs) h = omega (arith, no_longer cs key (at + 1) vs (and_parts _ _ h).1)

null_is : (v : Value) → is_null v ≡ true → v ≡ Null
null_is Null h = refl
null_is (Int n) h = absurd (true≢false (sym h))
null_is (Real x) h = absurd (true≢false (sym h))
null_is (Text t) h = absurd (true≢false (sym h))
null_is (Blob b) h = absurd (true≢false (sym h))

not_number : (n : ℕ) → Null ≡ Int (pos n) → ⊥
not_number n e = true≢false (ap is_null e)

not_text : (t : List ℕ) → Null ≡ Text t → ⊥
not_text t e = true≢false (ap is_null e)

last_of : (at : ℕ) {a b : Row} → a ≡ b → column a at ≡ column b at
last_of at e = ap (λ (row : Row). column row at) e

six_whole : (vs : Row) → length vs ≤ 6 → (s : Span) → six vs ≡ span_cells s → vs ≡ span_cells s
six_whole [] high s e = absurd (not_number s.removed (last_of 5 e))
six_whole (a ∷ []) high s e = absurd (not_number s.removed (last_of 5 e))
six_whole (a ∷ b ∷ []) high s e = absurd (not_number s.removed (last_of 5 e))
six_whole (a ∷ b ∷ c ∷ []) high s e = absurd (not_number s.removed (last_of 5 e))
six_whole (a ∷ b ∷ c ∷ d ∷ []) high s e = absurd (not_number s.removed (last_of 5 e))
six_whole (a ∷ b ∷ c ∷ d ∷ f ∷ []) high s e = absurd (not_number s.removed (last_of 5 e))
six_whole (a ∷ b ∷ c ∷ d ∷ f ∷ g ∷ []) high s e = e
six_whole (a ∷ b ∷ c ∷ d ∷ f ∷ g ∷ h ∷ more) high s e = absurd (omega (arith, high))

two_whole : (vs : Row) → length vs ≤ 2 → (x : Entry) → two vs ≡ entry_cells x → vs ≡ entry_cells x
two_whole [] high x e = absurd (not_number x.value (last_of 1 e))
two_whole (a ∷ []) high x e = absurd (not_number x.value (last_of 1 e))
two_whole (a ∷ b ∷ []) high x e = e
two_whole (a ∷ b ∷ c ∷ more) high x e = absurd (omega (arith, high))

abbrev config_shown : Row → Row
config_shown r = eval_all configs_query.project ([] ∷ r ∷ [])

config_whole : (r : Row) → are_typed config_table.key 0 config_table.columns (drop 1 r) ≡ true → (c : ConfigRow) → config_shown r ≡ config_cells c → r ≡ config_with_rowid c
config_whole [] typed c e = absurd (not_text c.text (last_of 1 e))
config_whole (a ∷ []) typed c e = absurd (not_text c.text (last_of 1 e))
config_whole (a ∷ b ∷ []) typed c e = absurd (not_text c.text (last_of 1 e))
config_whole (a ∷ b ∷ t ∷ []) typed c e =
    ap (λ (v : Value). v ∷ b ∷ t ∷ []) (last_of 0 e) ∙ (ap (λ (v : Value). Int (pos c.rev) ∷ v ∷ t ∷ []) (null_is b (and_parts _ _ typed).0) ∙ ap (λ (v : Value). Int (pos c.rev) ∷ Null ∷ v ∷ []) (last_of 1 e))
config_whole (a ∷ b ∷ t ∷ u ∷ more) typed c e = absurd (let n = no_longer config_table.columns config_table.key 0 (b ∷ t ∷ u ∷ more) typed in omega (arith, n))

-- ---- of the three tables

typed_in : (db : Database) → db.schema ≡ schema → IsDatabase db → Keeps Datatype schema db.trees
typed_in db has sound = subst (λ s. Keeps Datatype s db.trees) has (sound.obeys.rules Datatype)

abbrev span_shown : Row → Row
span_shown r = eval_all rows_query.project ([] ∷ r ∷ [])

span_shown_is : (r : Row) → six (drop 1 r) ≡ span_shown r
span_shown_is [] = refl
span_shown_is (id ∷ cells) = refl

pub found_spans : (old new : State) (rows : List Row) (xs : List Span) → old.now.schema ≡ schema → IsDatabase old.now → Shown rows_text [] old new rows → map six rows ≡ map span_cells xs
    → AreSpans old.now.trees xs
found_spans old new rows xs has sound did read =
    let db = old.now.trees 0 in
    let answer = (reads_as rows_text [] old new schema has _ rows_is rows_plain rows_unlisted rows did).answer Null in
    let all : IsPermutation (map span_shown db) rows = subst (λ l. IsPermutation (map span_shown l) rows) (filter_all_true db) (scan_rows 0 [] rows_query.project rows_query.order _ [] rows answer) in
    let typed = (typed_in old.now has sound).0 in
    let rows_are : Lists (old.now.trees 0) (map span_cells xs) =
    stands span_cells span_cells (drop 1) span_shown six db rows xs same_spans (λ r. refl) all read
    (all_from _ db (λ r h s e.
    six_whole (drop 1 r) (no_longer row_table.columns None 0 (drop 1 r) (and_parts _ _ (all_has _ db r typed h)).0) s (span_shown_is r ∙ e))) in
    record { rows = rows_are; order = spans_sorted old new rows xs has did read }

map_same : (rows : List Row) → map (λ r. r) rows ≡ rows
map_same [] = refl
map_same (r ∷ rows) = ap (λ (more : List Row). r ∷ more) (map_same rows)

pub found_configs : (old new : State) (rows : List Row) (xs : List ConfigRow) → old.now.schema ≡ schema → IsDatabase old.now → Shown configs_text [] old new rows → map two rows ≡ map config_cells xs
    → AreConfigs old.now.trees xs
found_configs old new rows xs has sound did read =
    let db = old.now.trees 2 in
    let answer = (reads_as configs_text [] old new schema has _ configs_is configs_plain configs_unlisted rows did).answer Null in
    let all : IsPermutation (map config_shown db) rows = subst (λ l. IsPermutation (map config_shown l) rows) (filter_all_true db) (scan_rows 2 [] configs_query.project configs_query.order _ [] rows answer) in
    let typed = (typed_in old.now has sound).1.0 in
    let rows_are : IsPermutation (map config_with_rowid xs) (old.now.trees 2) =
    subst (IsPermutation (map config_with_rowid xs)) (map_same db)
    (stands config_cells config_with_rowid (λ r. r) config_shown two db rows xs same_configs (λ r. refl) all read
    (all_from _ db (λ r h c e. config_whole r (and_parts _ _ (all_has _ db r typed h)).0 c e))) in
    record { rows = rows_are; order = configs_sorted old new rows xs has did read }

abbrev entry_shown : Row → Row
entry_shown r = eval_all entries_query.project ([] ∷ r ∷ [])

entry_shown_is : (r : Row) → two (drop 1 r) ≡ entry_shown r
entry_shown_is [] = refl
entry_shown_is (id ∷ cells) = refl

pub found_entries : (old new : State) (rows : List Row) (xs : List Entry) → old.now.schema ≡ schema → IsDatabase old.now → Shown read_text [] old new rows → map two rows ≡ map entry_cells xs
    → AreEntries old.now.trees xs
found_entries old new rows xs has sound did read =
    let db = old.now.trees 3 in
    let answer = (reads_as read_text [] old new schema has _ entries_is entries_plain entries_unlisted rows did).answer Null in
    let all : IsPermutation (map entry_shown db) rows = subst (λ l. IsPermutation (map entry_shown l) rows) (filter_all_true db) (scan_rows 3 [] entries_query.project entries_query.order _ [] rows answer) in
    let typed = (typed_in old.now has sound).1.1.0 in
    let rows_are : Lists (old.now.trees 3) (map entry_cells xs) =
    stands entry_cells entry_cells (drop 1) entry_shown two db rows xs same_entries (λ r. refl) all read
    (all_from _ db (λ r h x e.
    two_whole (drop 1 r) (no_longer state_table.columns None 0 (drop 1 r) (and_parts _ _ (all_has _ db r typed h)).0) x (entry_shown_is r ∙ e))) in
    record { rows = rows_are; order = entries_sorted old new rows xs has did read }

-- ---- the rowids

abbrev pub id_row : Row → Row
id_row r = column r 0 ∷ []

pub other_id : (m n : ℕ) → same_rowid (id_cells m) (id_cells n) ≡ is_eq (nat_cmp m n)
other_id m n = ap is_eq (value_cmp-Int (pos m) (pos n) ∙ natural_as m n)

ids_apart : (ids : List ℕ) → IsDistinct (λ m n. is_eq (nat_cmp m n)) ids → IsDistinct same_rowid (map id_cells ids)
ids_apart [] apart = IsDistinct-none
ids_apart (m ∷ ids) apart =
    let e : ℕ → ℕ → Bool = λ a b. is_eq (nat_cmp a b) in
    IsDistinct-cons same_rowid (id_cells m) (map id_cells ids)
    (all-map (λ r. same_rowid (id_cells m) r ≡ false) id_cells ids (all_from _ ids (λ n h. other_id m n ∙ all_has (λ y. e m y ≡ false) ids n (IsDistinct-head e m ids apart) h)))
    (ids_apart ids (IsDistinct-tail e m ids apart))

ids_integers : (ids : List ℕ) → AllByRecursion (λ r. IsTrue (is_int (rowid r))) (map id_cells ids)
ids_integers [] = tt
ids_integers (m ∷ ids) = (refl, ids_integers ids)

apart_from_shown : (db : List Row) → IsDistinct same_rowid (map id_row db) → IsDistinct same_rowid db
apart_from_shown [] apart = IsDistinct-none
apart_from_shown (r ∷ db) apart =
    IsDistinct-cons same_rowid r db (all_from_map (λ s. same_rowid (id_row r) s ≡ false) id_row db (IsDistinct-head same_rowid (id_row r) (map id_row db) apart))
    (apart_from_shown db (IsDistinct-tail same_rowid (id_row r) (map id_row db) apart))

keyed_by : (tree : ℕ) (db : Trees) (rows : List Row) (ids : List ℕ) → IsAnswer (ids_query tree) db [] rows → map one rows ≡ map id_cells ids → IsStrictlyIncreasing ids → HasRowids (db tree)
keyed_by tree db rows ids answer read up =
    let es = db tree in
    let all : IsPermutation (map id_row es) rows = subst (λ l. IsPermutation (map id_row l) rows) (filter_all_true es) (scan_rows tree [] (ids_query tree).project (ids_query tree).order db [] rows answer) in
    let kept : map one (map id_row es) ≡ map id_row es = map-map one id_row es in
    let back : IsPermutation (map id_cells ids) (map id_row es) =
    IsPermutation-sym _ _ (subst (λ a. IsPermutation a (map id_cells ids)) kept (subst (IsPermutation (map one (map id_row es))) read (IsPermutation-map one _ _ all))) in
    let apart = ids_apart ids (IsDistinct-from_sorted nat_cmp ids (sorted_from_strictly_increasing ids up)) in
    record {
      integers = all_from_map (λ r. IsTrue (is_int (rowid r))) id_row es (all-permutation (λ r. IsTrue (is_int (rowid r))) _ _ back (ids_integers ids));
      distinct = apart_from_shown es (IsDistinct-IsPermutation same_rowid flips _ _ back apart);
    }

pub found_rowids : (sql : List ℕ) (tree : ℕ) → AsksRowids sql tree → (old new : State) (rows : List Row) (ids : List ℕ) → old.now.schema ≡ schema → Shown sql [] old new rows → map one rows ≡ map id_cells ids
    → IsStrictlyIncreasing ids → HasRowids (old.now.trees tree)
found_rowids sql tree asks old new rows ids has did read up = go asks
  where
    answers : (t : ℕ) (it : ReadsIds sql t) → Reads (Select (alone (ids_query t)) it.names) old.now [] rows
    answers t it = reads_as sql [] old new schema has _ it.is it.plain it.unlisted rows did

    go : AsksRowids sql tree → HasRowids (old.now.trees tree)
    go (inl h) = subst (λ t. HasRowids (old.now.trees t)) (sym h.1) (keyed_by 0 _ rows ids ((answers 0 (reads_ids sql 0 (inl (h.0, refl)))).answer Null) read up)
    go (inr (inl h)) = subst (λ t. HasRowids (old.now.trees t)) (sym h.1) (keyed_by 2 _ rows ids ((answers 2 (reads_ids sql 2 (inr (inl (h.0, refl))))).answer Null) read up)
    go (inr (inr h)) = subst (λ t. HasRowids (old.now.trees t)) (sym h.1) (keyed_by 3 _ rows ids ((answers 3 (reads_ids sql 3 (inr (inr (h.0, refl))))).answer Null) read up)

-- ---- the whole

pub live_after : (old new : State) → IsLive old → IsUnchanged old new → IsLive new
live_after old new live same is_open = let was = live same.0.was_open in (subst IsDatabase (sym same.0.now_is) was.0, subst IsDatabase (sym same.0.committed_is) was.1)

-- one query of the whole tables after another
pub then_reads : (old mid new : State) → Survives old mid (λ _. ¬ (old.now.schema ≡ schema)) → (HasCleanDisk mid → old.now.schema ≡ schema → IsUnchanged old mid) → Survives mid new (λ _. ¬ (mid.now.schema ≡ schema))
    → Survives old new (λ _. ¬ (old.now.schema ≡ schema))
then_reads old mid new first same second =
    survives_then old mid new _ _ (λ _. ¬ (old.now.schema ≡ schema)) (λ _ db none. none)
    (λ clean db none has. none (ap (λ (d : Database). d.schema) (same (omega (arith, second.clean, clean)) has).0.now_is ∙ has)) first second

-- what a query of a whole table found, where its rows are read as the values
pub finds : {A X : Type 0} (sql : List ℕ) (plain : IsPlain (understood schema sql)) (old new : State) (rows : List Row) (keep : Row → Row) (cells : X → Row) (items : A → List X) (P : Trees → List X → Type 0)
    → ((xs : List X) → old.now.schema ≡ schema → IsDatabase old.now → Shown sql [] old new rows → map keep rows ≡ map cells xs → P old.now.trees xs)
    → old.now.schema ≡ schema → IsLive old → Shown sql [] old new rows → (all : List Row) → all ≡ rows → (r : Result A Error) → IfOk r (λ a. map keep all ≡ map cells (items a)) → IfOk r (λ a. P old.now.trees (items a))
finds sql plain old new rows keep cells items P found has live did all same r read =
    let was_open = (read_same sql plain old new rows has did).0.was_open in
    if_ok r _ _ (λ a is. found (items a) has (live was_open).0 did (sym (ap (map keep) same) ∙ is)) read

-- what each query found stands in the tables as they were at first
pub whole : (first second third fourth : State) (xs : List Span) (cs : List ConfigRow) (es : List Entry) → IsLive first → first.now.schema ≡ schema → IsUnchanged first second
    → (second.now.schema ≡ schema → IsLive second → AreSpans second.now.trees xs) → (second.now.schema ≡ schema → IsUnchanged second third)
    → (third.now.schema ≡ schema → IsLive third → AreConfigs third.now.trees cs) → (third.now.schema ≡ schema → IsUnchanged third fourth)
    → (fourth.now.schema ≡ schema → IsLive fourth → AreEntries fourth.now.trees es) → AreSpans first.now.trees xs × AreConfigs first.now.trees cs × AreEntries first.now.trees es
whole first second third fourth xs cs es live has same spans same_next configs same_last entries =
    let now2 : second.now ≡ first.now = same.0.now_is in
    let has2 : second.now.schema ≡ schema = ap (λ (d : Database). d.schema) now2 ∙ has in
    let live2 = live_after first second live same in
    let still = same_next has2 in
    let now3 : third.now ≡ first.now = still.0.now_is ∙ now2 in
    let has3 : third.now.schema ≡ schema = ap (λ (d : Database). d.schema) now3 ∙ has in
    let live3 = live_after second third live2 still in
    let stays = same_last has3 in
    let now4 : fourth.now ≡ first.now = stays.0.now_is ∙ now3 in
    let has4 : fourth.now.schema ≡ schema = ap (λ (d : Database). d.schema) now4 ∙ has in (
      subst (λ (d : Database). AreSpans d.trees xs) now2 (spans has2 live2),
      subst (λ (d : Database). AreConfigs d.trees cs) now3 (configs has3 live3),
      subst (λ (d : Database). AreEntries d.trees es) now4 (entries has4 (live_after third fourth live3 stays)),
    )

pub holds_whole : (db : Database) (xs : List Span) (cs : List ConfigRow) (es : List Entry) → db.schema ≡ schema → AreKeyed db.trees → AreSpans db.trees xs × AreConfigs db.trees cs × AreEntries db.trees es
    → Holds db (record { spans = xs; configs = cs; entries = es })
holds_whole db xs cs es has keyed read = record {
  schema_is = has;
  spans = read.0.rows;
  configs = read.1.rows;
  entries = read.2.rows;
  spans_rowids = keyed.0;
  configs_rowids = keyed.1;
  entries_rowids = keyed.2;
}
