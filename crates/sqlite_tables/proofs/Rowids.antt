-- What an edit keeps of the rowids.
use Rattle.std.proofs.Common.{◌≡◌, ℤ, Bool, true, false, not, cond, List, [], ◌∷◌, filter, refl, sym, ap, ◌∙◌, inl, inr, true≢false, Ordering, Less, Equal, Greater, IsTrue}
use Rattle.std.specs.List.{AllByRecursion, IsDistinct}
use Rattle.std.specs.Ordering.{is_eq}
use Rattle.std.proofs.lemmas.Bool.{and_parts, or_parts, not-true}
use Rattle.std.proofs.lemmas.Cmp.{tied_back}
use Rattle.std.proofs.lemmas.Map.Keys.{IsDistinct-IsPermutation, IsDistinct-head, IsDistinct-tail, IsDistinct-cons}
use Rattle.sqlite.specs.Order.{Row}
use Rattle.sqlite_value.proofs.OrderLemmas.{value_cmp_total}
use Rattle.sqlite_trees.proofs.ListLemmas.{all-filter, all-permutation}
use Rattle.sqlite.specs.Tree.{Trees, rowid, put_row, without_rowid, has_rowid}
use Rattle.sqlite.specs.View.{is_int}
use Rattle.sqlite.specs.Edit.{Edit, edited, left_by, put_all, without_all, is_taken, are_fresh, have_rowids}
use Rattle.sqlite_rules.specs.Lists.{Has}
use Rattle.sqlite_rules.proofs.ListLemmas.{all_has}
use Rattle.sqlite_tables.specs.Tables.{HasRowids, same_rowid}
use Rattle.sqlite_tables.proofs.Lists.{put_fresh}

flip : (a b : Bool) → (a ≡ true → b ≡ true) → (b ≡ true → a ≡ true) → a ≡ b
flip true b f g = sym (f refl)
flip false true f g = g refl
flip false false f g = refl

equal_is : (o : Ordering) → is_eq o ≡ true → o ≡ Equal
equal_is Less e = absurd (true≢false (sym e))
equal_is Equal e = refl
equal_is Greater e = absurd (true≢false (sym e))

pub flips : (a b : Row) → same_rowid a b ≡ same_rowid b a
flips a b =
    flip (same_rowid a b) (same_rowid b a) (λ e. ap is_eq (tied_back value_cmp_total (rowid a) (rowid b) (equal_is _ e))) (λ e. ap is_eq (tied_back value_cmp_total (rowid b) (rowid a) (equal_is _ e)))

pub one_row : (rows : List Row) (a b : Row) → IsDistinct same_rowid rows → Has rows a → Has rows b → same_rowid a b ≡ true → a ≡ b
one_row [] a b apart h k tie = absurd h
one_row (r ∷ rows) a b apart (inl h) (inl k) tie = h ∙ sym k
one_row (r ∷ rows) a b apart (inl h) (inr k) tie = absurd (true≢false (sym tie ∙ (ap (λ (x : Row). same_rowid x b) h ∙ all_has _ rows b (IsDistinct-head same_rowid r rows apart) k)))
one_row (r ∷ rows) a b apart (inr h) (inl k) tie = absurd (true≢false (sym tie ∙ (flips a b ∙ (ap (λ (x : Row). same_rowid x a) k ∙ all_has _ rows a (IsDistinct-head same_rowid r rows apart) h))))
one_row (r ∷ rows) a b apart (inr h) (inr k) tie = one_row rows a b (IsDistinct-tail same_rowid r rows apart) h k tie

none_taken : (n : Row) (rows : List Row) → is_taken rows n ≡ false → AllByRecursion (λ r. same_rowid n r ≡ false) rows
none_taken n [] free = tt
none_taken n (r ∷ rows) free = let parts = or_parts _ _ free in (flips n r ∙ parts.0, none_taken n rows parts.1)

rowids_put : (n : Row) (rows : List Row) → is_int (rowid n) ≡ true → is_taken rows n ≡ false → HasRowids rows → HasRowids (put_row n rows)
rowids_put n rows int free h =
    let put = put_fresh n rows free in
    record {
      integers = all-permutation (λ r. IsTrue (is_int (rowid r))) _ _ put (int, h.integers);
      distinct = IsDistinct-IsPermutation same_rowid flips _ _ put (IsDistinct-cons same_rowid n rows (none_taken n rows free) h.distinct);
    }

rowids_puts : (news rows : List Row) → have_rowids news ≡ true → are_fresh rows news ≡ true → HasRowids rows → HasRowids (put_all rows news)
rowids_puts [] rows ids fresh h = h
rowids_puts (n ∷ news) rows ids fresh h =
    let parts = and_parts _ _ ids in
    let free = and_parts _ _ fresh in
    rowids_puts news (put_row n rows) parts.1 free.1 (rowids_put n rows parts.0 (not-true _ free.0) h)

distinct_filter : (p : Row → Bool) (rows : List Row) → IsDistinct same_rowid rows → IsDistinct same_rowid (filter p rows)
distinct_filter p [] h = h
distinct_filter p (r ∷ rows) h = go (p r) (distinct_filter p rows (IsDistinct-tail same_rowid r rows h))
  where
    go : (b : Bool) → IsDistinct same_rowid (filter p rows) → IsDistinct same_rowid (cond b (r ∷ filter p rows) (filter p rows))
    go true later = IsDistinct-cons same_rowid r (filter p rows) (all-filter (λ y. same_rowid r y ≡ false) p rows (IsDistinct-head same_rowid r rows h)) later
    go false later = later

rowids_without : (ids : List ℤ) (rows : List Row) → HasRowids rows → HasRowids (without_all rows ids)
rowids_without [] rows h = h
rowids_without (id ∷ ids) rows h =
    let keep : Row → Bool = λ r. not (has_rowid id r) in
    rowids_without ids (without_rowid id rows) (record { integers = all-filter (λ r. IsTrue (is_int (rowid r))) keep rows h.integers; distinct = distinct_filter keep rows h.distinct })

pub rowids_edit : (db : Trees) (edit : Edit) → have_rowids edit.news ≡ true → are_fresh (left_by db edit) edit.news ≡ true → HasRowids (db edit.table.tree) → HasRowids (edited db edit)
rowids_edit db edit ids fresh h = rowids_puts edit.news (left_by db edit) ids fresh (rowids_without edit.gone (db edit.table.tree) h)

pub IsDistinct-none : IsDistinct same_rowid []
unfolding IsDistinct
IsDistinct-none = tt

pub no_rowids : HasRowids []
no_rowids = record { integers = tt; distinct = IsDistinct-none }
