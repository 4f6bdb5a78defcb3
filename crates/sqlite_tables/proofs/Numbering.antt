-- What an edit keeps of the numbers of the rows.
use Rattle.std.proofs.Common.{◌≡◌, ◌≤◌, ◌+◌, ◌+ℤ◌, ℕ, pos, ℤ, Bool, true, not, if◌then◌else◌, List, [], ◌∷◌, length, map, drop, filter, fold, refl, sym, ap, ◌∙◌, subst, arith}
use Rattle.std.specs.List.{AllByRecursion}
use Rattle.std.specs.List.Sorted.{IsPermutation}
use Rattle.sqlite.specs.declared.types.Value.{Value}
use Rattle.sqlite.specs.declared.types.Value.TheVariants.{Null, Int}
use Rattle.sqlite.specs.Order.{Row}
use Rattle.sqlite.specs.Kind.TheVariants.{Integer}
use Rattle.sqlite.specs.Table.{Table}
use Rattle.sqlite.specs.Cast.{cast, cast_row}
use Rattle.sqlite.specs.Rowids.TheVariants.{Chosen, Given}
use Rattle.sqlite.specs.Tree.{Trees, rowid, has_rowid, put_row, without_rowid}
use Rattle.sqlite.specs.Edit.{Edit, edit_of, edited, left_by, without_all, are_fresh, id_in, next_rowid, is_chosen, with_rowid, numbered}
use Rattle.sqlite_rules.specs.Calls.{ids_of}
use Rattle.sqlite_trees.proofs.ListLemmas.{all-filter, all-map, all-append, all_weaker, all-permutation}
use Rattle.sqlite_trees.proofs.TreeLemmas.{all-put_row}
use Rattle.sqlite_tables.specs.Numbered.{IsNumbered, AreNumberedTo}
use Rattle.sqlite_tables.proofs.Lists.{put_all_fresh}
use Rattle.sqlite_tables.proofs.Cells.{cast_int}
use Rattle.sqlite_tables.proofs.Update.{source_of, numbered_given}

row_more : (n m : ℕ) → n ≤ m → (r : Row) → IsNumbered n r → IsNumbered m r
row_more n m up r h = (h.0, h.1, omega (arith, up, h.2))

pub rows_more : (n m : ℕ) → n ≤ m → (rows : List Row) → AllByRecursion (IsNumbered n) rows → AllByRecursion (IsNumbered m) rows
rows_more n m up rows h = all_weaker (IsNumbered n) (IsNumbered m) (row_more n m up) rows h

pub numbered_more : (n m : ℕ) (trees : Trees) → n ≤ m → AreNumberedTo n trees → AreNumberedTo m trees
numbered_more n m trees up h = record { spans = rows_more n m up (trees 0) h.spans; entries = h.entries }

all_left : (P : Row → Type 0) (ids : List ℤ) (rows : List Row) → AllByRecursion P rows → AllByRecursion P (without_all rows ids)
all_left P [] rows h = h
all_left P (id ∷ ids) rows h = all_left P ids (without_rowid id rows) (all-filter P (λ r. not (has_rowid id r)) rows h)

-- what is so of the rows that were there and of the new ones
pub all_edited : (P : Row → Type 0) (db : Trees) (edit : Edit) → are_fresh (left_by db edit) edit.news ≡ true → AllByRecursion P edit.news → AllByRecursion P (db edit.table.tree) → AllByRecursion P (edited db edit)
all_edited P db edit fresh news was =
    all-permutation P _ _ (put_all_fresh edit.news (left_by db edit) fresh) (all-append P edit.news (left_by db edit) news (all_left P edit.gone (db edit.table.tree) was))

-- an UPDATE keeps each rowid
module _ (top : ℕ) (db : Trees) (table : Table) (p : Row → Bool) (f : Row → Row) (rows : List Row) where
  keeps_rowid : (r : Row) → IsNumbered top r → IsNumbered top (cast_row table (drop 1 (source_of f r)))
  keeps_rowid r h = (h.0, ap (cast Integer) h.1 ∙ cast_int (pos h.0), h.2)

  pub updates_numbered : IsPermutation (map (source_of f) (filter p (db table.tree))) rows
      → are_fresh (left_by db (edit_of db table (ids_of rows) Given 1 rows)) (edit_of db table (ids_of rows) Given 1 rows).news ≡ true
      → AllByRecursion (IsNumbered top) (db table.tree) → AllByRecursion (IsNumbered top) (edited db (edit_of db table (ids_of rows) Given 1 rows))
  updates_numbered perm fresh was =
      let edit = edit_of db table (ids_of rows) Given 1 rows in
      let written : Row → Row = λ s. cast_row table (drop 1 s) in
      let Q : Row → Type 0 = λ s. IsNumbered top (written s) in
      let sources = all-map Q (source_of f) (filter p (db table.tree)) (all_weaker (IsNumbered top) (λ r. Q (source_of f r)) keeps_rowid _ (all-filter (IsNumbered top) p (db table.tree) was)) in
      let news : AllByRecursion (IsNumbered top) edit.news =
      subst (AllByRecursion (IsNumbered top)) (sym (numbered_given _ _)) (all-map (IsNumbered top) written rows (all-permutation Q _ _ perm sources)) in
      all_edited (IsNumbered top) db edit fresh news was

-- ---- rowids that are chosen

next_of : (n : ℕ) (rows : List Row) (start : ℕ) → start ≤ n + 1 → AllByRecursion (IsNumbered n) rows → (m : ℕ) × (fold (λ _ r. id_in (rowid r) +ℤ pos 1) (pos start) rows ≡ pos m) × (m ≤ n + 1)
next_of n [] start low all = (start, refl, low)
next_of n (r ∷ rows) start low all =
    let rest = next_of n rows (all.0.0 + 1) (omega (arith, all.0.2)) all.1 in
    (rest.0, ap (λ (v : Value). fold (λ _ x. id_in (rowid x) +ℤ pos 1) (id_in v +ℤ pos 1) rows) all.0.1 ∙ rest.1, rest.2)

chosen_row : (n : ℕ) (rows : List Row) (row : Row) → AllByRecursion (IsNumbered n) rows → rowid row ≡ Null → IsNumbered (n + 1) (with_rowid Chosen rows row)
chosen_row n rows row all none =
    let next = next_of n rows 1 (omega arith) all in
    let is : with_rowid Chosen rows row ≡ Int (next_rowid rows) ∷ drop 1 row = ap (λ (v : Value). if is_chosen Chosen v then Int (next_rowid rows) ∷ drop 1 row else row) none in
    subst (IsNumbered (n + 1)) (sym is) (next.0, ap Int next.1, next.2)

-- each is one above the last
pub numbered_chosen : (n : ℕ) (rows news : List Row) → AllByRecursion (IsNumbered n) rows → AllByRecursion (λ r. rowid r ≡ Null) news → AllByRecursion (IsNumbered (n + length news)) (numbered Chosen rows news)
numbered_chosen n rows [] all none = tt
numbered_chosen n rows (r ∷ news) all none =
    let first = chosen_row n rows r all none.0 in
    let rest = numbered_chosen (n + 1) (put_row (with_rowid Chosen rows r) rows) news (all-put_row (IsNumbered (n + 1)) (with_rowid Chosen rows r) rows first (rows_more n (n + 1) (omega arith) rows all)) none.1 in
    let same : n + 1 + length news ≡ n + length (r ∷ news) = omega arith in
    (row_more (n + 1) (n + length (r ∷ news)) (omega arith) (with_rowid Chosen rows r) first, subst (λ m. AllByRecursion (IsNumbered m) (numbered Chosen (put_row (with_rowid Chosen rows r) rows) news)) same rest)
