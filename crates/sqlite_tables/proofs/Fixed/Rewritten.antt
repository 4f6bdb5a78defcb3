-- The rows that an UPDATE leaves: each one that passes is written anew under its own rowid.
use Rattle.std.proofs.Common.{◌≡◌, inl, inr, ℕ, Bool, true, false, not, ◌&&◌, if◌then◌else◌, List, [], ◌∷◌, ◌++◌, map, drop, filter, refl, sym, ap, ◌∙◌, subst}
use Rattle.std.specs.List.{AllByRecursion, IsDistinct}
use Rattle.std.specs.List.Sorted.{IsPermutation}
use Rattle.std.proofs.lemmas.Bool.{and_parts, and_from, both_ways, false_from_ne_true}
use Rattle.std.proofs.lemmas.List.{map-append}
use Rattle.std.proofs.lemmas.List.Sorted.{IsPermutation-sym, IsPermutation-trans, IsPermutation-map, IsPermutation-middle, IsPermutation-append_left, IsPermutation-append_right, IsPermutation-filter_both}
use Rattle.std.proofs.lemmas.Map.Keys.{IsDistinct-IsPermutation, IsDistinct-head, IsDistinct-tail, IsDistinct-cons}
use Rattle.sqlite.specs.declared.types.Value.TheVariants.{Int}
use Rattle.sqlite.specs.Order.{Row, column}
use Rattle.sqlite.specs.Tree.{Trees, rowid, put_row}
use Rattle.sqlite.specs.Table.{Table}
use Rattle.sqlite.specs.Cast.{cast_row}
use Rattle.sqlite.specs.Rowids.TheVariants.{Given}
use Rattle.sqlite.specs.Edit.{Edit, edit_of, edited, left_by, id_in, is_taken, are_fresh}
use Rattle.sqlite_value.specs.declared.keys.Order.{Order}
use Rattle.sqlite_value.specs.Keys.{later}
use Rattle.sqlite_schema.specs.Rules.{agree, clashes, differ}
use Rattle.sqlite_trees.proofs.ListLemmas.{map-map, all-permutation}
use Rattle.sqlite_rules.specs.Lists.{Has}
use Rattle.sqlite_rules.specs.Calls.{ids_of}
use Rattle.sqlite_rules.proofs.ListLemmas.{all_has, all_from, some_has, some_from, has_filtered, has_right}
use Rattle.sqlite_rules.proofs.TableLemmas.{int_is}
use Rattle.sqlite_tables.specs.Tables.{HasRowids, same_rowid}
use Rattle.sqlite_tables.proofs.Insert.{cast_int}
use Rattle.sqlite_tables.proofs.Lists.{put_fresh, put_all_fresh}
use Rattle.sqlite_tables.proofs.Rowids.{flips}
use Rattle.sqlite_tables.proofs.Update.{numbered_given, left_is, source_of, map_kept, map_others}

-- ---- members

pub has_permuted : {X : Type 0} (xs ys : List X) (x : X) → IsPermutation xs ys → Has ys x → Has xs x
has_permuted xs ys x same h = all_has (Has xs) ys x (all-permutation (Has xs) xs ys same (all_from (Has xs) xs (λ y there. there))) h

pub has_mapped : {X Y : Type 0} (f : X → Y) (xs : List X) (y : Y) → Has (map f xs) y → (x : X) × Has xs x × (y ≡ f x)
has_mapped f [] y h = absurd h
has_mapped f (x ∷ xs) y (inl same) = (x, inl refl, same)
has_mapped f (x ∷ xs) y (inr there) = let found = has_mapped f xs y there in (found.0, inr found.1, found.2)

pub mapped_has : {X Y : Type 0} (f : X → Y) (xs : List X) (x : X) → Has xs x → Has (map f xs) (f x)
mapped_has f [] x h = absurd h
mapped_has f (y ∷ xs) x (inl same) = inl (ap f same)
mapped_has f (y ∷ xs) x (inr there) = inr (mapped_has f xs x there)

-- ---- rowids that are apart

pub free_of : (n : Row) (rows : List Row) → ((r : Row) → Has rows r → same_rowid n r ≡ false) → is_taken rows n ≡ false
free_of n rows apart = false_from_ne_true _ (λ taken. let found = some_has (λ r. same_rowid r n) rows taken in both_ways _ (flips found.0 n ∙ apart found.0 found.1) found.2)

-- rows whose rowids are apart are put in one after another
pub fresh_if_apart : (news rows : List Row) → IsDistinct same_rowid (news ++ rows) → are_fresh rows news ≡ true
fresh_if_apart [] rows apart = refl
fresh_if_apart (n ∷ news) rows apart =
    let heads = IsDistinct-head same_rowid n (news ++ rows) apart in
    let free : is_taken rows n ≡ false = free_of n rows (λ r there. all_has _ (news ++ rows) r heads (has_right news rows r there)) in
    let moved : IsPermutation (n ∷ news ++ rows) (news ++ put_row n rows) = IsPermutation-trans _ (news ++ n ∷ rows) _ (IsPermutation-sym _ _ (IsPermutation-middle news n rows)) (IsPermutation-append_right news _ _ (put_fresh n rows free)) in
    and_from _ _ (ap not free) (fresh_if_apart news (put_row n rows) (IsDistinct-IsPermutation same_rowid flips _ _ moved apart))

same_mapped : (f : Row → Row) (r : Row) (rows : List Row) → rowid (f r) ≡ rowid r → AllByRecursion (λ x. rowid (f x) ≡ rowid x) rows → AllByRecursion (λ x. same_rowid r x ≡ false) rows
    → AllByRecursion (λ x. same_rowid (f r) x ≡ false) (map f rows)
same_mapped f r [] here keeps apart = tt
same_mapped f r (x ∷ rows) here keeps apart = (rw (here, keeps.0) apart.0, same_mapped f r rows here keeps.1 apart.1)

pub distinct_mapped : (f : Row → Row) (rows : List Row) → AllByRecursion (λ r. rowid (f r) ≡ rowid r) rows → IsDistinct same_rowid rows → IsDistinct same_rowid (map f rows)
distinct_mapped f [] keeps apart = apart
distinct_mapped f (r ∷ rows) keeps apart =
    IsDistinct-cons same_rowid (f r) (map f rows) (same_mapped f r rows keeps.0 keeps.1 (IsDistinct-head same_rowid r rows apart)) (distinct_mapped f rows keeps.1 (IsDistinct-tail same_rowid r rows apart))

-- ---- the rows after the update

module _ (db : Trees) (table : Table) (P : Row → Bool) (f : Row → Row) (rows : List Row) (keyed : HasRowids (db table.tree)) (perm : IsPermutation (map (source_of f) (filter P (db table.tree))) rows) where
  abbrev edit : Edit
  edit = edit_of db table (ids_of rows) Given 1 rows

  -- the row that is written in place of one that passes
  abbrev written : Row → Row
  written r = cast_row table (rowid r ∷ f r)

  abbrev after : Row → Row
  after r = if P r then written r else r

  news_are : edit.news ≡ map (λ s. cast_row table (drop 1 s)) rows
  news_are = numbered_given _ _

  news_perm : IsPermutation (map written (filter P (db table.tree))) edit.news
  news_perm =
      subst (λ all. IsPermutation all edit.news) (map-map (λ s. cast_row table (drop 1 s)) (source_of f) (filter P (db table.tree)))
      (subst (λ all. IsPermutation (map (λ s. cast_row table (drop 1 s)) (map (source_of f) (filter P (db table.tree)))) all) (sym news_are) (IsPermutation-map (λ s. cast_row table (drop 1 s)) _ _ perm))

  left_are : left_by db edit ≡ filter (λ r. not (P r)) (db table.tree)
  left_are =
      left_is P (db table.tree) keyed (ids_of rows) (subst (λ ids. IsPermutation ids (ids_of rows)) (map-map (λ s. id_in (rowid s)) (source_of f) (filter P (db table.tree))) (IsPermutation-map (λ s. id_in (rowid s)) _ _ perm))

  -- each new row stands for one that passes
  pub new_is : (n : Row) → Has edit.news n → (r : Row) × Has (db table.tree) r × (P r ≡ true) × (n ≡ written r)
  new_is n h =
      let found = has_mapped written (filter P (db table.tree)) n (has_permuted _ _ n news_perm h) in
      let was = has_filtered P (db table.tree) found.0 found.1 in (found.0, was.0, was.1, found.2)

  parts : IsPermutation (map after (db table.tree)) (edit.news ++ left_by db edit)
  parts =
      let sources = filter P (db table.tree) in
      let others = filter (λ r. not (P r)) (db table.tree) in
      let whole : IsPermutation (db table.tree) (sources ++ others) = IsPermutation-filter_both P (λ r. not (P r)) (λ x. refl) (db table.tree) in
      let both : map after (sources ++ others) ≡ map written sources ++ map (λ r. r) others =
      map-append after sources others ∙ (ap (λ all. all ++ map after others) (map_kept P written (λ r. r) (db table.tree)) ∙ ap (λ all. map written sources ++ all) (map_others P written (λ r. r) (db table.tree))) in
      let kept : map written sources ++ map (λ r. r) others ≡ map written sources ++ left_by db edit = ap (λ all. map written sources ++ all) (map_id others ∙ sym left_are) in
      IsPermutation-trans _ (map written sources ++ left_by db edit) _ (subst (IsPermutation (map after (db table.tree))) (both ∙ kept) (IsPermutation-map after _ _ whole)) (IsPermutation-append_left (left_by db edit) _ _ news_perm)
    where
      map_id : (xs : List Row) → map (λ r. r) xs ≡ xs
      map_id [] = refl
      map_id (x ∷ xs) = ap (λ more. x ∷ more) (map_id xs)

  keeps_rowid : (r : Row) → Has (db table.tree) r → rowid (after r) ≡ rowid r
  keeps_rowid r there = elim (P r) as (λ b. rowid (if b then written r else r) ≡ rowid r) [ true ↦ cast_rowid (int_is (rowid r) (all_has _ (db table.tree) r keyed.integers there)) | false ↦ refl ]
    where
      cast_rowid : rowid r ≡ Int (id_in (rowid r)) → rowid (written r) ≡ rowid r
      cast_rowid is = rw is (cast_int (id_in (rowid r)))

  pub fresh_after : are_fresh (left_by db edit) edit.news ≡ true
  fresh_after = fresh_if_apart edit.news (left_by db edit) (IsDistinct-IsPermutation same_rowid flips _ _ parts (distinct_mapped after (db table.tree) (all_from _ (db table.tree) keeps_rowid) keyed.distinct))

  pub whole_after : IsPermutation (map after (db table.tree)) (edited db edit)
  whole_after = IsPermutation-trans _ _ _ parts (put_all_fresh edit.news (left_by db edit) fresh_after)

  -- ---- keys stay apart where their columns stay

  agrees_as : (o : Order) (ps : List ℕ) (a b c d : Row) → ((p : ℕ) → Has ps p → column a p ≡ column c p) → ((p : ℕ) → Has ps p → column b p ≡ column d p)
      → agree o ps a ps b ≡ agree o ps c ps d
  agrees_as o [] a b c d one two = refl
  agrees_as o (p ∷ ps) a b c d one two = rw (one p (inl refl), two p (inl refl), agrees_as (later o) ps a b c d (λ q h. one q (inr h)) (λ q h. two q (inr h))) refl

  unclash : (o : Order) (ps : List ℕ) (x y a b : Row) → ((p : ℕ) → Has ps p → column x p ≡ column a p) → ((p : ℕ) → Has ps p → column y p ≡ column b p) → rowid x ≡ rowid a → rowid y ≡ rowid b
      → (agree o ps x ps y && differ (rowid x) (rowid y)) ≡ true → (agree o ps a ps b && differ (rowid a) (rowid b)) ≡ true
  unclash o ps x y a b one two here there both =
      let parts = and_parts (agree o ps x ps y) (differ (rowid x) (rowid y)) both in
      and_from _ _ (sym (agrees_as o ps x y a b one two) ∙ parts.0) (sym (ap (λ v. differ v (rowid y)) here ∙ ap (differ (rowid a)) there) ∙ parts.1)

  stays : (ps : List ℕ) → ((r : Row) → Has (db table.tree) r → P r ≡ true → (p : ℕ) → Has ps p → column (written r) p ≡ column r p) → (r : Row) → Has (db table.tree) r → (p : ℕ) → Has ps p → column (after r) p ≡ column r p
  stays ps same r at p h = go (P r) refl
    where
      go : (b : Bool) → P r ≡ b → column (if b then written r else r) p ≡ column r p
      go true is = same r at is p h
      go false is = refl

  pub apart_after : (o : Order) (ps : List ℕ) → ((r : Row) → Has (db table.tree) r → P r ≡ true → (p : ℕ) → Has ps p → column (written r) p ≡ column r p)
      → ((r : Row) → Has (db table.tree) r → clashes o ps (db table.tree) r ≡ false) → (row : Row) → Has (edited db edit) row → clashes o ps (edited db edit) row ≡ false
  apart_after o ps same apart row there = false_from_ne_true _ (λ clash.
      let other = some_has (λ x. agree o ps x ps row && differ (rowid x) (rowid row)) (edited db edit) clash in
      let a = has_mapped after (db table.tree) other.0 (has_permuted _ _ other.0 whole_after other.1) in
      let b = has_mapped after (db table.tree) row (has_permuted _ _ row whole_after there) in
      let met = unclash o ps other.0 row a.0 b.0 (λ p h. ap (λ r. column r p) a.2 ∙ stays ps same a.0 a.1 p h) (λ p h. ap (λ r. column r p) b.2 ∙ stays ps same b.0 b.1 p h)
      (ap rowid a.2 ∙ keeps_rowid a.0 a.1) (ap rowid b.2 ∙ keeps_rowid b.0 b.1) other.2 in
      both_ways _ (apart b.0 b.1) (some_from (λ x. agree o ps x ps b.0 && differ (rowid x) (rowid b.0)) (db table.tree) a.0 a.1 met))
