-- The greatest rowid of a table, as the query of its rowids shows it.
use Rattle.std.proofs.Common.{◌≡◌, ◌≤◌, ◌<◌, ◌-◌, ◌+◌, ◌^◌, eqb, ltb, ℕ, false, List, [], ◌∷◌, map, length, get_or, slice_index, All, refl, sym, subst, ◌∙◌, inl, inr, arith}
use Rattle.std.specs.List.{AllByRecursion, IsDistinct}
use Rattle.std.specs.Ordering.{is_eq, nat_cmp}
use Rattle.std.specs.List.Sorted.{IsPermutation, IsStrictlyIncreasing}
use Rattle.std.proofs.lemmas.Bool.{cases_Bool}
use Rattle.std.proofs.lemmas.Bool.Decides.{nat_tests}
use Rattle.std.proofs.lemmas.List.Sorted.{IsPermutation-map, IsPermutation-sym, IsNonDecreasingBy-from_sort}
use Rattle.std.proofs.lemmas.Map.Keys.{IsStrictlyIncreasing-from_distinct, sorted_from_strictly_increasing, below_from_sorted, IsDistinct-IsPermutation}
use Rattle.sqlite_trees.proofs.ListLemmas.{map-map, all-map, all_from_map, all-permutation, all-get_or}
use Rattle.sqlite_rules.proofs.ListLemmas.{all_has, all_from}
use Rattle.sqlite.specs.declared.types.Value.TheVariants.{Null}
use Rattle.sqlite.specs.Order.{Row}
use Rattle.sqlite.specs.Tree.{Trees}
use Rattle.sqlite.specs.State.{State, Shown}
use Rattle.sqlite.proofs.Callers.{reads_as}
use Rattle.sqlite_tables.specs.Format.{schema}
use Rattle.sqlite_tables.specs.Tables.{HasRowids, AsksRowids, same_rowid, id_cells, one}
use Rattle.sqlite_tables.specs.Numbered.{IsNumbered}
use Rattle.sqlite_tables.specs.Reading.{IsGreatest, IsLast}
use Rattle.sqlite_tables.proofs.Texts.{ids_query, ReadsIds, reads_ids}
use Rattle.sqlite_tables.proofs.Rowids.{flips}
use Rattle.sqlite_tables.proofs.Scan.{scan_rows}
use Rattle.sqlite_tables.proofs.Update.{filter_all_true}
use Rattle.sqlite_tables.proofs.Sorting.{ids_sorted}
use Rattle.sqlite_tables.proofs.Found.{id_row, other_id}

-- the ids that were read are those of the tree
same_ids : (sql : List ℕ) (tree : ℕ) → AsksRowids sql tree → (old new : State) (rows : List Row) (ids : List ℕ) → old.now.schema ≡ schema → Shown sql [] old new rows → map one rows ≡ map id_cells ids
    → IsPermutation (map id_cells ids) (map id_row (old.now.trees tree))
same_ids sql tree asks old new rows ids has did read = go asks
  where
    at : (t : ℕ) (over : List Row) → ReadsIds sql t → over ≡ old.now.trees t → over ≡ Rattle.sqlite_sql.specs.Program.overlay old.now.trees [] t → IsPermutation (map id_cells ids) (map id_row (old.now.trees t))
    at t over it same over_is =
        let answer = (reads_as sql [] old new schema has _ it.is it.plain it.unlisted rows did).answer Null in
        let all : IsPermutation (map id_row over) rows =
        subst (λ l. IsPermutation (map id_row l) rows) (filter_all_true _ ∙ sym over_is) (scan_rows t [] (ids_query t).project (ids_query t).order _ [] rows answer) in
        let kept : map one (map id_row over) ≡ map id_row over = map-map one id_row over in
        subst (λ es. IsPermutation (map id_cells ids) (map id_row es)) same
        (IsPermutation-sym _ _ (subst (λ a. IsPermutation a (map id_cells ids)) kept (subst (IsPermutation (map one (map id_row over))) read (IsPermutation-map one _ _ all))))

    go : AsksRowids sql tree → IsPermutation (map id_cells ids) (map id_row (old.now.trees tree))
    go (inl h) = subst (λ t. IsPermutation (map id_cells ids) (map id_row (old.now.trees t))) (sym h.1) (at 0 (old.now.trees 0) (reads_ids sql 0 (inl (h.0, refl))) refl refl)
    go (inr (inl h)) = subst (λ t. IsPermutation (map id_cells ids) (map id_row (old.now.trees t))) (sym h.1) (at 2 (old.now.trees 2) (reads_ids sql 2 (inr (inl (h.0, refl)))) refl refl)
    go (inr (inr h)) = subst (λ t. IsPermutation (map id_cells ids) (map id_row (old.now.trees t))) (sym h.1) (at 3 (old.now.trees 3) (reads_ids sql 3 (inr (inr (h.0, refl)))) refl refl)

-- ---- they rise where no rowid comes twice

apart_ids : (ids : List ℕ) → IsDistinct same_rowid (map id_cells ids) → IsDistinct eqb ids
unfolding IsDistinct
apart_ids [] apart = tt
apart_ids (m ∷ ids) apart =
    (all_from _ ids (λ n there. differs n (all_has (λ k. same_rowid (id_cells m) (id_cells k) ≡ false) ids n (all_from_map (λ r. same_rowid (id_cells m) r ≡ false) id_cells ids apart.0) there)), apart_ids ids apart.1)
  where
    differs : (n : ℕ) → same_rowid (id_cells m) (id_cells n) ≡ false → eqb m n ≡ false
    differs n other = let e : is_eq (nat_cmp m n) ≡ false = sym (other_id m n) ∙ other in grind (arith, nat_tests, e)

apart_shown : (db : List Row) → IsDistinct same_rowid db → IsDistinct same_rowid (map id_row db)
unfolding IsDistinct
apart_shown [] apart = tt
apart_shown (r ∷ db) apart = (all-map (λ s. same_rowid (id_row r) s ≡ false) id_row db apart.0, apart_shown db apart.1)

pub ids_rise : (sql : List ℕ) (tree : ℕ) → AsksRowids sql tree → (old new : State) (rows : List Row) (ids : List ℕ) → old.now.schema ≡ schema → Shown sql [] old new rows → map one rows ≡ map id_cells ids
    → HasRowids (old.now.trees tree) → IsStrictlyIncreasing ids
ids_rise sql tree asks old new rows ids has did read keyed =
    let same = same_ids sql tree asks old new rows ids has did read in
    let apart = IsDistinct-IsPermutation same_rowid flips _ _ (IsPermutation-sym _ _ same) (apart_shown (old.now.trees tree) keyed.distinct) in
    IsStrictlyIncreasing-from_distinct ids (IsNonDecreasingBy-from_sort (λ n. n) ids (ids_sorted sql tree asks old new rows ids has did read)) (apart_ids ids apart)

-- ---- the last is the greatest

up_to_last : (ids : List ℕ) → IsStrictlyIncreasing ids → AllByRecursion (λ n. n ≤ slice_index ids (length ids - 1)) ids
up_to_last ids up = Rattle.std.proofs.ByRecursion.All-from_get_or (λ n. n ≤ slice_index ids (length ids - 1)) ids 0 (λ i low. by i low)
  where
    by : (i : ℕ) → i < length ids → get_or ids i 0 ≤ slice_index ids (length ids - 1)
    by i low = elim (cases_Bool (ltb (i + 1) (length ids))) [
      | inl before ↦ let high : i + 1 < length ids = grind (arith, nat_tests, before) in let below = below_from_sorted ids i (length ids - 1) 0 (sorted_from_strictly_increasing ids up) (omega (arith, high)) (omega (arith, high)) in omega (arith, below)
      | inr last ↦ let high : length ids ≤ i + 1 = grind (arith, nat_tests, last) in let same : i ≡ length ids - 1 = omega (arith, low, high) in subst (λ k. get_or ids i 0 ≤ slice_index ids k) same (omega arith)
    ]

last_up_to : (ids : List ℕ) (n : ℕ) → AllByRecursion (λ m. m ≤ n) ids → slice_index ids (length ids - 1) ≤ n
last_up_to [] n all = omega arith
last_up_to (m ∷ ids) n all = all-get_or (λ k. k ≤ n) (m ∷ ids) (length (m ∷ ids) - 1) 0 all (omega arith)

last_fits : (ids : List ℕ) → All (λ n. n < 2 ^ 63) ids → slice_index ids (length ids - 1) < 2 ^ 63
last_fits [] all = omega arith
last_fits (m ∷ ids) all = all (length (m ∷ ids) - 1) 0 (omega arith)

pub greatest : (sql : List ℕ) (tree : ℕ) → AsksRowids sql tree → (old new : State) (rows : List Row) (ids : List ℕ) → old.now.schema ≡ schema → Shown sql [] old new rows → map one rows ≡ map id_cells ids
    → IsStrictlyIncreasing ids → All (λ n. n < 2 ^ 63) ids → IsGreatest (old.now.trees tree) (slice_index ids (length ids - 1))
greatest sql tree asks old new rows ids has did read up fit =
    let db = old.now.trees tree in
    let top = slice_index ids (length ids - 1) in
    let same = same_ids sql tree asks old new rows ids has did read in
    let numbered : AllByRecursion (IsNumbered top) (map id_cells ids) = all-map (IsNumbered top) id_cells ids (all_from _ ids (λ n there. (n, refl, all_has (λ m. m ≤ top) ids n (up_to_last ids up) there))) in
    record {
      numbered = all_from_map (IsNumbered top) id_row db (all-permutation (IsNumbered top) _ _ same numbered);
      least = λ n each.
          let shown : AllByRecursion (IsNumbered n) (map id_cells ids) = all-permutation (IsNumbered n) _ _ (IsPermutation-sym _ _ same) (all-map (IsNumbered n) id_row db each) in
          last_up_to ids n (all_from _ ids (λ m there. low_id n m (all_has (λ k. IsNumbered n (id_cells k)) ids m (all_from_map (IsNumbered n) id_cells ids shown) there)));
      fits = last_fits ids fit;
    }
  where
    low_id : (n m : ℕ) → IsNumbered n (id_cells m) → m ≤ n
    low_id n m it = let same : m ≡ it.0 = cc in omega (arith, same, it.2)

-- from the tables of the spans and of the state
pub last_of_both : (trees : Trees) (top other : ℕ) → IsGreatest (trees 0) top → IsGreatest (trees 3) other → IsLast trees top
last_of_both trees top other spans entries = record {
  numbered = record {
    spans = spans.numbered;
    entries = all_from _ (trees 3) (λ r there. let it = all_has (IsNumbered other) (trees 3) r entries.numbered there in (it.0, it.1, omega (arith, it.2, entries.fits)));
  };
  least = λ n numbered. spans.least n numbered.spans;
}
