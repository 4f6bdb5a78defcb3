-- What UPDATE and DELETE make of the rows of one table, up to their order.
use Rattle.std.proofs.Common.{◌≡◌, ℤ, Bool, true, false, not, ◌&&◌, ◌||◌, cond, if◌then◌else◌, List, [], ◌∷◌, ◌++◌, map, drop, filter, Ordering, Less, Equal, Greater, refl, sym, ap, ◌∙◌, subst, true≢false}
use Rattle.std.specs.List.{list_any}
use Rattle.std.specs.List.Sorted.{IsPermutation}
use Rattle.std.specs.Ordering.{is_eq}
use Rattle.std.proofs.lemmas.Cmp.{tied_itself}
use Rattle.std.proofs.lemmas.List.{map-append}
use Rattle.std.proofs.lemmas.List.Sorted.{IsPermutation-trans, IsPermutation-map, IsPermutation-append_left, IsPermutation-filter_both, list_any-IsPermutation}
use Rattle.sqlite.specs.declared.types.Value.TheVariants.{Int}
use Rattle.sqlite.specs.Order.{Row, value_cmp}
use Rattle.sqlite_value.proofs.OrderLemmas.{value_cmp_total}
use Rattle.sqlite_trees.proofs.ListLemmas.{map-map, filter_same}
use Rattle.sqlite.specs.Tree.{Trees, rowid, put_row, without_rowid, has_rowid}
use Rattle.sqlite_rules.specs.Lists.{Has}
use Rattle.sqlite_rules.specs.Calls.{ids_of}
use Rattle.sqlite_rules.proofs.ListLemmas.{all_has, all_from, some_has, some_from, has_filtered, has_kept}
use Rattle.sqlite_rules.proofs.TableLemmas.{int_is}
use Rattle.sqlite.specs.Table.{Table}
use Rattle.sqlite.specs.Cast.{cast_all, cast_row}
use Rattle.sqlite.specs.Rowids.TheVariants.{Given}
use Rattle.sqlite.specs.Edit.{edit_of, edited, left_by, numbered, without_all, are_fresh, id_in}
use Rattle.sqlite_tables.specs.Tables.{HasRowids}
use Rattle.sqlite_tables.proofs.Lists.{put_all_fresh}
use Rattle.sqlite_tables.proofs.Rowids.{one_row}

equal_is : (o : Ordering) → is_eq o ≡ true → o ≡ Equal
equal_is Less e = absurd (true≢false (sym e))
equal_is Equal e = refl
equal_is Greater e = absurd (true≢false (sym e))

pub numbered_given : (rows news : List Row) → numbered Given rows news ≡ news
numbered_given rows [] = refl
numbered_given rows (r ∷ news) = ap (λ more. r ∷ more) (numbered_given (put_row r rows) news)

pub filter_then : {A : Type 0} (p q : A → Bool) (xs : List A) → filter p (filter q xs) ≡ filter (λ x. q x && p x) xs
filter_then p q [] = refl
filter_then {A} p q (x ∷ xs) = go (q x) (filter_then p q xs)
  where
    go : (b : Bool) → filter p (filter q xs) ≡ filter (λ y. q y && p y) xs
        → filter p (cond b (x ∷ filter q xs) (filter q xs)) ≡ cond (b && p x) (x ∷ filter (λ y. q y && p y) xs) (filter (λ y. q y && p y) xs)
    go true later = ap (λ (more : List A). cond (p x) (x ∷ more) more) later
    go false later = later

not_or : (a b : Bool) → (not a && not b) ≡ not (a || b)
not_or true b = refl
not_or false b = refl

pub filter_congr : {A : Type 0} (p q : A → Bool) → ((x : A) → p x ≡ q x) → (xs : List A) → filter p xs ≡ filter q xs
filter_congr p q same [] = refl
filter_congr {A} p q same (x ∷ xs) =
    ap (λ (b : Bool). cond b (x ∷ filter p xs) (filter p xs)) (same x) ∙ ap (λ (more : List A). cond (q x) (x ∷ more) more) (filter_congr p q same xs)

pub filter_all_true : {A : Type 0} (xs : List A) → filter (λ x. true) xs ≡ xs
filter_all_true [] = refl
filter_all_true (x ∷ xs) = ap (λ more. x ∷ more) (filter_all_true xs)

pub without_all_is : (ids : List ℤ) (rows : List Row) → without_all rows ids ≡ filter (λ r. not (list_any (λ id. has_rowid id r) ids)) rows
without_all_is [] rows = sym (filter_all_true rows)
without_all_is (id ∷ ids) rows =
    without_all_is ids (without_rowid id rows) ∙ (filter_then (λ r. not (list_any (λ i. has_rowid i r) ids)) (λ r. not (has_rowid id r)) rows
    ∙ filter_congr _ _ (λ r. not_or (has_rowid id r) (list_any (λ i. has_rowid i r) ids)) rows)

list_any-map : {A B : Type 0} (p : B → Bool) (f : A → B) (xs : List A) → list_any p (map f xs) ≡ list_any (λ x. p (f x)) xs
list_any-map p f [] = refl
list_any-map p f (x ∷ xs) = ap (λ (b : Bool). p (f x) || b) (list_any-map p f xs)

pub map_kept : {A B : Type 0} (p : A → Bool) (f g : A → B) (xs : List A) → map (λ x. if p x then f x else g x) (filter p xs) ≡ map f (filter p xs)
map_kept p f g [] = refl
map_kept {A} {B} p f g (x ∷ xs) = go (p x) refl (map_kept p f g xs)
  where
    go : (b : Bool) → p x ≡ b → map (λ y. if p y then f y else g y) (filter p xs) ≡ map f (filter p xs) → map (λ y. if p y then f y else g y) (cond b (x ∷ filter p xs) (filter p xs)) ≡ map f (cond b (x ∷ filter p xs) (filter p xs))
    go true e later = ap (λ (b : Bool). cond b (f x) (g x) ∷ map (λ y. if p y then f y else g y) (filter p xs)) e ∙ ap (λ more. f x ∷ more) later
    go false e later = later

pub map_others : {A B : Type 0} (p : A → Bool) (f g : A → B) (xs : List A) → map (λ x. if p x then f x else g x) (filter (λ x. not (p x)) xs) ≡ map g (filter (λ x. not (p x)) xs)
map_others p f g [] = refl
map_others {A} {B} p f g (x ∷ xs) = go (p x) refl (map_others p f g xs)
  where
    go : (b : Bool) → p x ≡ b → map (λ y. if p y then f y else g y) (filter (λ y. not (p y)) xs) ≡ map g (filter (λ y. not (p y)) xs)
        → map (λ y. if p y then f y else g y) (cond (not b) (x ∷ filter (λ y. not (p y)) xs) (filter (λ y. not (p y)) xs)) ≡ map g (cond (not b) (x ∷ filter (λ y. not (p y)) xs) (filter (λ y. not (p y)) xs))
    go true e later = later
    go false e later = ap (λ (b : Bool). cond b (f x) (g x) ∷ map (λ y. if p y then f y else g y) (filter (λ y. not (p y)) xs)) e ∙ ap (λ more. g x ∷ more) later

-- the rows that a statement takes out are those that pass its test
module _ (P : Row → Bool) (es : List Row) (keyed : HasRowids es) where
  known : (r : Row) → Has es r → rowid r ≡ Int (id_in (rowid r))
  known r has = int_is (rowid r) (all_has _ es r keyed.integers has)

  one : (r : Row) → Has es r → (b : Bool) → P r ≡ b → (found : Bool) → list_any (λ s. has_rowid (id_in (rowid s)) r) (filter P es) ≡ found → found ≡ b
  one r has true e true any = refl
  one r has true e false any =
      let itself : has_rowid (id_in (rowid r)) r ≡ true = subst (λ v. is_eq (value_cmp (rowid r) v) ≡ true) (known r has) (rw (tied_itself value_cmp_total (rowid r))) in
      sym (sym (some_from (λ s. has_rowid (id_in (rowid s)) r) (filter P es) r (has_kept P es r has e) itself) ∙ any)
  one r has false e false any = refl
  one r has false e true any =
      let other = some_has (λ s. has_rowid (id_in (rowid s)) r) (filter P es) any in
      let was = has_filtered P es other.0 other.1 in
      let tie : value_cmp (rowid r) (rowid other.0) ≡ Equal = subst (λ v. value_cmp (rowid r) v ≡ Equal) (sym (known other.0 was.0)) (equal_is _ other.2) in
      let same : r ≡ other.0 = one_row es r other.0 keyed.distinct has was.0 (ap is_eq tie) in
      sym was.1 ∙ (sym (ap P same) ∙ e)

  pub left_is : (ids : List ℤ) → IsPermutation (map (λ r. id_in (rowid r)) (filter P es)) ids → without_all es ids ≡ filter (λ r. not (P r)) es
  left_is ids perm =
      without_all_is ids es ∙ filter_same _ _ es (all_from _ es (λ r has.
      ap not (sym (list_any-IsPermutation (λ id. has_rowid id r) _ ids perm) ∙ (list_any-map (λ id. has_rowid id r) (λ s. id_in (rowid s)) (filter P es) ∙ one r has (P r) refl _ refl))))

-- what UPDATE writes into the rows that pass
abbrev pub source_of : (Row → Row) → Row → Row
source_of f r = rowid r ∷ rowid r ∷ f r

pub updates : (db : Trees) (table : Table) (P : Row → Bool) (f : Row → Row) (rows : List Row) → HasRowids (db table.tree)
    → IsPermutation (map (source_of f) (filter P (db table.tree))) rows
    → are_fresh (left_by db (edit_of db table (ids_of rows) Given 1 rows)) (edit_of db table (ids_of rows) Given 1 rows).news ≡ true
    → IsPermutation (map (λ r. if P r then cast_all table.columns (f r) else drop 1 r) (db table.tree)) (map (drop 1) (edited db (edit_of db table (ids_of rows) Given 1 rows)))
updates db table P f rows keyed perm fresh =
    let es = db table.tree in
    let edit = edit_of db table (ids_of rows) Given 1 rows in
    let g : Row → Row = λ r. if P r then cast_all table.columns (f r) else drop 1 r in
    let tail : Row → Row = λ s. drop 1 (cast_row table (drop 1 s)) in
    let news : edit.news ≡ map (λ s. cast_row table (drop 1 s)) rows = numbered_given _ _ in
    let kept : left_by db edit ≡ filter (λ r. not (P r)) es =
    left_is P es keyed (ids_of rows) (subst (λ ids. IsPermutation ids (ids_of rows)) (map-map (λ s. id_in (rowid s)) (source_of f) (filter P es)) (IsPermutation-map (λ s. id_in (rowid s)) _ _ perm)) in
    let put : IsPermutation (edit.news ++ left_by db edit) (edited db edit) = put_all_fresh edit.news (left_by db edit) fresh in
    let cut : IsPermutation (map (drop 1) edit.news ++ map (drop 1) (left_by db edit)) (map (drop 1) (edited db edit)) =
    subst (λ all. IsPermutation all (map (drop 1) (edited db edit))) (map-append (drop 1) edit.news (left_by db edit)) (IsPermutation-map (drop 1) _ _ put) in
    let sources = filter P es in
    let others = filter (λ r. not (P r)) es in
    let write : Row → Row = λ r. cast_all table.columns (f r) in
    let tails : IsPermutation (map write sources) (map (drop 1) edit.news) =
    subst (λ all. IsPermutation all (map (drop 1) edit.news)) (map-map tail (source_of f) sources)
    (subst (λ all. IsPermutation (map tail (map (source_of f) sources)) all) (sym (ap (map (drop 1)) news ∙ map-map (drop 1) (λ s. cast_row table (drop 1 s)) rows)) (IsPermutation-map tail _ _ perm)) in
    let whole : IsPermutation es (sources ++ others) = IsPermutation-filter_both P (λ r. not (P r)) (λ x. refl) es in
    let both : map g (sources ++ others) ≡ map write sources ++ map (drop 1) others =
    map-append g sources others ∙ (ap (λ all. all ++ map g others) (map_kept P write (drop 1) es) ∙ ap (λ all. map write sources ++ all) (map_others P write (drop 1) es)) in
    let parts : IsPermutation (map write sources ++ map (drop 1) others) (map (drop 1) edit.news ++ map (drop 1) (left_by db edit)) =
    subst (λ left. IsPermutation (map write sources ++ map (drop 1) others) (map (drop 1) edit.news ++ map (drop 1) left)) (sym kept) (IsPermutation-append_left (map (drop 1) others) _ _ tails) in
    IsPermutation-trans _ _ _ (subst (IsPermutation (map g es)) both (IsPermutation-map g _ _ whole)) (IsPermutation-trans _ _ _ parts cut)

-- ---- the same, read as a change of the cells

pub map_congr : {A B : Type 0} (f g : A → B) → ((x : A) → f x ≡ g x) → (xs : List A) → map f xs ≡ map g xs
map_congr f g same [] = refl
map_congr {A} {B} f g same (x ∷ xs) = ap (λ (y : B). y ∷ map f xs) (same x) ∙ ap (λ (ys : List B). g x ∷ ys) (map_congr f g same xs)

-- `cells` shows a value of the model as cells, on which the statement does what `change` does to the value
pub rewrites : {X : Type 0} (cells : X → Row) (change : X → X) (whole : Row → Row) (G : Row → Row) (tree : List Row) (after : Row → Row) (next : List Row) (xs : List X)
    → ((r : Row) → after r ≡ G (drop 1 r)) → ((x : X) → G (cells x) ≡ cells (change x))
    → IsPermutation (map cells xs) (map (drop 1) tree) → IsPermutation (map after tree) (map (drop 1) next) → IsPermutation (map cells (map change xs)) (map (drop 1) next)
rewrites cells change whole G tree after next xs reads does held wrote =
    let model : map G (map cells xs) ≡ map cells (map change xs) = map-map G cells xs ∙ (map_congr _ _ does xs ∙ sym (map-map cells change xs)) in
    let code : map after tree ≡ map G (map (drop 1) tree) = map_congr _ _ reads tree ∙ sym (map-map G (drop 1) tree) in
    IsPermutation-trans _ _ _ (subst (λ all. IsPermutation all (map G (map (drop 1) tree))) model (IsPermutation-map G _ _ held)) (subst (λ all. IsPermutation all (map (drop 1) next)) code wrote)
