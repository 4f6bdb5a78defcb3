-- The order of the rows that a query shows.
use Rattle.std.proofs.Common.{◌≡◌, ℕ, pos, List, [], ◌∷◌, map, Ordering, Equal, refl, sym, ap, ◌∙◌, subst, arith}
use Rattle.std.specs.List.{AllByRecursion}
use Rattle.std.specs.List.Sorted.{IsPermutation, IsSorted}
use Rattle.std.specs.Ordering.{is_lt, on, nat_cmp, int_cmp, ordering_then}
use Rattle.std.proofs.lemmas.Bool.Decides.{nat_tests}
use Rattle.std.specs.Cmp.Lexicographic.{slice_cmp}
use Rattle.std.proofs.ByRecursion.{all_shuffled}
use Rattle.sqlite.specs.Order.{Row, value_cmp}
use Rattle.sqlite.specs.declared.types.Value.TheVariants.{Null, Int, Text}
use Rattle.sqlite.specs.Term.{Term, Env, eval_all}
use Rattle.sqlite.specs.State.{State, Shown}
use Rattle.sqlite.proofs.Callers.{reads_as}
use Rattle.sqlite.specs.Query.{IsAnswer, output, Output}
use Rattle.sqlite.specs.Tree.{Trees}
use Rattle.sqlite_sql.specs.Query.{key_cmp}
use Rattle.sqlite_value.specs.declared.keys.Key.{Key}
use Rattle.sqlite_value.proofs.OrderLemmas.{value_cmp-Int, value_cmp-Text, then-Equal}
use Rattle.sqlite_trees.proofs.ListLemmas.{map-map}
use Rattle.sqlite_exec.proofs.RowsLemmas.{IsSorted-map}
use Rattle.sqlite_exec.proofs.PartitionLemmas.{IsSorted-from_map}
use Rattle.sqlite_tables.specs.Tables.{Span, ConfigRow, Entry, AsksRowids, span_cells, config_cells, entry_cells, id_cells, one, two, six}
use Rattle.sqlite_tables.specs.Stored.{span_cmp, config_cmp, entry_cmp}
use Rattle.sqlite_tables.specs.Format.{schema}
use Rattle.sqlite_tables.proofs.Texts.{scan, rows_text, rows_query, rows_is, rows_plain, rows_unlisted, configs_text, configs_query, configs_is, configs_plain, configs_unlisted, read_text, entries_query, entries_is, entries_plain, entries_unlisted, ids_query, reads_ids}

-- ---- of a query over one table

pub draw : {X Y : Type 0} (f : X → Y) (ys : List Y) → AllByRecursion (λ y. (x : X) × (y ≡ f x)) ys → (xs : List X) × (ys ≡ map f xs)
draw f [] h = ([], refl)
draw {X} {Y} f (y ∷ ys) h = let rest = draw f ys h.1 in (h.0.0 ∷ rest.0, ap (λ (v : Y). v ∷ ys) h.0.1 ∙ ap (λ (l : List Y). f h.0.0 ∷ l) rest.1)

pub is_image : {X Y : Type 0} (f : X → Y) (xs : List X) → AllByRecursion (λ y. (x : X) × (y ≡ f x)) (map f xs)
is_image f [] = tt
is_image f (x ∷ xs) = ((x, refl), is_image f xs)

pub sorted_as : {X : Type 0} (c d : X → X → Ordering) → ((x y : X) → c x y ≡ d x y) → (xs : List X) → IsSorted c xs → IsSorted d xs
sorted_as c d same xs sorted k e low high = ap is_lt (sym (same _ _)) ∙ sorted k e low high

abbrev keys_of : List (Term × Key) → List Key
keys_of = map (λ k. k.1)

-- Where the query shows what it orders by first, the rows come in the order of those columns.
pub scan_sorted : (t : ℕ) (test project : List Term) (order : List (Term × Key)) (db : Trees) (params : Row) (rows : List Row)
    → ((x y : Env) → key_cmp 0 (keys_of order) (eval_all (map (λ k. k.0) order) x) (eval_all (map (λ k. k.0) order) y) ≡ key_cmp 0 (keys_of order) (eval_all project x) (eval_all project y))
    → IsAnswer (scan t test project order) db params rows → IsSorted (key_cmp 0 (keys_of order)) rows
scan_sorted t test project order db params rows agrees a =
    let q = scan t test project order in
    let cmp = key_cmp 0 (keys_of order) in
    let shown : Env → Row = eval_all project in
    let keys : Env → Row = eval_all (map (λ k. k.0) order) in
    let from : IsPermutation (map (output q) a.staged) a.ordered = subst (λ l. IsPermutation l a.ordered) a.distinct a.same in
    let envs = draw (output q) a.ordered (all_shuffled (λ o. (x : Env) × (o ≡ output q x)) _ a.ordered from (is_image (output q) a.staged)) in
    let ordered : IsSorted (on (λ (o : Output). o.0) cmp) (map (output q) envs.0) = subst (IsSorted (on (λ (o : Output). o.0) cmp)) envs.1 a.sorted in
    let by_keys : IsSorted (λ x y. cmp (keys x) (keys y)) envs.0 = IsSorted-from_map (on (λ (o : Output). o.0) cmp) (output q) envs.0 ordered in
    let by_shown : IsSorted (λ x y. cmp (shown x) (shown y)) envs.0 = sorted_as _ _ agrees envs.0 by_keys in
    let all : rows ≡ map shown envs.0 = a.shown ∙ (ap (map (λ (o : Output). o.1)) envs.1 ∙ map-map (λ (o : Output). o.1) (output q) envs.0) in
    subst (IsSorted cmp) (sym all) (IsSorted-map cmp shown envs.0 by_shown)

-- rows that are the cells of values put the values in order
pub values_sorted : {X : Type 0} (keep : Row → Row) (cells : X → Row) (c : Row → Row → Ordering) (d : X → X → Ordering) (rows : List Row) (xs : List X)
    → ((a b : Row) → c a b ≡ c (keep a) (keep b)) → ((x y : X) → c (cells x) (cells y) ≡ d x y) → map keep rows ≡ map cells xs → IsSorted c rows → IsSorted d xs
values_sorted keep cells c d rows xs keeps shows same sorted =
    let kept : IsSorted c (map keep rows) = IsSorted-map c keep rows (sorted_as c (λ a b. c (keep a) (keep b)) keeps rows sorted) in
    sorted_as _ d shows xs (IsSorted-from_map c cells xs (subst (IsSorted c) same kept))

-- ---- of the three tables

pub natural_as : (a b : ℕ) → int_cmp (pos a) (pos b) ≡ nat_cmp a b
natural_as a b = grind (arith, nat_tests)

number_as : (a b : ℕ) → ordering_then (value_cmp (Int (pos a)) (Int (pos b))) Equal ≡ nat_cmp a b
number_as a b = then-Equal (value_cmp (Int (pos a)) (Int (pos b))) ∙ (value_cmp-Int (pos a) (pos b) ∙ natural_as a b)

text_as : (s t : List ℕ) → ordering_then (value_cmp (Text s) (Text t)) Equal ≡ slice_cmp nat_cmp s t
text_as s t = then-Equal (value_cmp (Text s) (Text t)) ∙ value_cmp-Text s t

pub span_as : (x y : Span) → key_cmp 0 (keys_of rows_query.order) (span_cells x) (span_cells y) ≡ span_cmp x y
span_as x y =
    rw (value_cmp-Text x.namespace y.namespace, value_cmp-Text x.object y.object, value_cmp-Text x.relation y.relation, value_cmp-Text x.subject y.subject, number_as x.added y.added)

pub config_as : (x y : ConfigRow) → key_cmp 0 (keys_of configs_query.order) (config_cells x) (config_cells y) ≡ config_cmp x y
config_as x y = number_as x.rev y.rev

pub entry_as : (x y : Entry) → key_cmp 0 (keys_of entries_query.order) (entry_cells x) (entry_cells y) ≡ entry_cmp x y
entry_as x y = text_as x.key y.key

pub spans_sorted : (old new : State) (rows : List Row) (xs : List Span) → old.now.schema ≡ schema → Shown rows_text [] old new rows → map six rows ≡ map span_cells xs → IsSorted span_cmp xs
spans_sorted old new rows xs has did same =
    let answer = (reads_as rows_text [] old new schema has _ rows_is rows_plain rows_unlisted rows did).answer Null in
    values_sorted six span_cells (key_cmp 0 (keys_of rows_query.order)) span_cmp rows xs (λ a b. refl) span_as same (scan_sorted 0 [] rows_query.project rows_query.order _ [] rows (λ x y. refl) answer)

pub configs_sorted : (old new : State) (rows : List Row) (xs : List ConfigRow) → old.now.schema ≡ schema → Shown configs_text [] old new rows → map two rows ≡ map config_cells xs → IsSorted config_cmp xs
configs_sorted old new rows xs has did same =
    let answer = (reads_as configs_text [] old new schema has _ configs_is configs_plain configs_unlisted rows did).answer Null in
    values_sorted two config_cells (key_cmp 0 (keys_of configs_query.order)) config_cmp rows xs (λ a b. refl) config_as same (scan_sorted 2 [] configs_query.project configs_query.order _ [] rows (λ x y. refl) answer)

pub entries_sorted : (old new : State) (rows : List Row) (xs : List Entry) → old.now.schema ≡ schema → Shown read_text [] old new rows → map two rows ≡ map entry_cells xs → IsSorted entry_cmp xs
entries_sorted old new rows xs has did same =
    let answer = (reads_as read_text [] old new schema has _ entries_is entries_plain entries_unlisted rows did).answer Null in
    values_sorted two entry_cells (key_cmp 0 (keys_of entries_query.order)) entry_cmp rows xs (λ a b. refl) entry_as same (scan_sorted 3 [] entries_query.project entries_query.order _ [] rows (λ x y. refl) answer)

pub ids_sorted : (sql : List ℕ) (tree : ℕ) → AsksRowids sql tree → (old new : State) (rows : List Row) (ids : List ℕ) → old.now.schema ≡ schema → Shown sql [] old new rows → map one rows ≡ map id_cells ids → IsSorted nat_cmp ids
ids_sorted sql tree asks old new rows ids has did same =
    let it = reads_ids sql tree asks in
    let answer = (reads_as sql [] old new schema has _ it.is it.plain it.unlisted rows did).answer Null in
    values_sorted one id_cells (key_cmp 0 (keys_of (ids_query tree).order)) nat_cmp rows ids (λ a b. refl) number_as same (scan_sorted tree [] (ids_query tree).project (ids_query tree).order _ [] rows (λ x y. refl) answer)
