-- The values of the state in the order of their keys are those of the history.
use Rattle.std.proofs.Common.{◌≡◌, ◌+◌, List, [], ◌∷◌, get_or, refl, sym, ap, subst, ◌∙◌, inl, inr, arith}
use Rattle.std.specs.Prelude.{Bool, true, false, codes, not, ◌⊎◌, IsPermutation, IsSorted, bytes_eq}
use Rattle.std.specs.Cmp.Lexicographic.{slice_cmp}
use Rattle.std.specs.Ordering.{nat_cmp, is_lt, ordering_reverse}
use Rattle.std.specs.declared.cmp.Ordering.{Ordering}
use Rattle.std.specs.declared.cmp.Ordering.TheVariants.{Less, Equal, Greater}
use Rattle.std.proofs.lemmas.Bool.{true≢false}
use Rattle.std.proofs.lemmas.Cmp.{nat_list_cmp_total}
use Rattle.std.proofs.lemmas.Map.Lookups.{exact_bytes}
use Rattle.std.proofs.lemmas.List.Elements.{All-nil, All-from_recursion}
use Rattle.std.proofs.lemmas.List.Sorted.{IsPermutation-sym}
use Rattle.std.proofs.lemmas.Slice.Eq.{bytes_eq-Decides}
use Rattle.sqlite_tables.specs.Tables.{Entry}
use Rattle.sqlite_tables.specs.Stored.{entry_cmp}
use Rattle.store.specs.Written.{Written, Pairwise, entry, entries_of}
use Rattle.store.proofs.Picking.{In, same_bool, all_in}
use Rattle.store.proofs.Apart.{Ordered, ordered}
use Rattle.store.proofs.Adjacent.{pair_in_order}
use Rattle.store.proofs.Once.{in_permuted}
use Rattle.store.proofs.Permuted.{pairwise_permuted}

-- the first has the lesser key
abbrev IsLess : Entry → Entry → Type 0
IsLess a b = slice_cmp nat_cmp a.key b.key ≡ Less

never_itself : (a b : Entry) → IsLess a b → IsLess b a → ⊥
never_itself a b p q = never (sym p ∙ nat_list_cmp_total.antisymm a.key b.key ∙ ap ordering_reverse q)
  where
    never : Less ≡ Greater → ⊥
    never e = cc

-- two lists in order that have the same are one
same_lists : (xs ys : List Entry) → Ordered IsLess xs → Ordered IsLess ys → ((e : Entry) → In e xs → In e ys) → ((e : Entry) → In e ys → In e xs) → xs ≡ ys
same_lists [] [] ox oy f b = refl
same_lists [] (y ∷ ys) ox oy f b = absurd (b y (inl refl))
same_lists (x ∷ xs) [] ox oy f b = absurd (f x (inl refl))
same_lists (x ∷ xs) (y ∷ ys) ox oy f b = joined first (same_lists xs ys ox.1 oy.1 on back)
  where
    by_first : (x ≡ y) ⊎ In x ys → (y ≡ x) ⊎ In y xs → x ≡ y
    by_first (inl e) j = e
    by_first (inr i) (inl e) = sym e
    by_first (inr i) (inr j) = absurd (never_itself x y (all_in (IsLess x) xs ox.0 y j) (all_in (IsLess y) ys oy.0 x i))

    first : x ≡ y
    first = by_first (f x (inl refl)) (b y (inl refl))

    on : (e : Entry) → In e xs → In e ys
    on e i = by_place (f e (inr i))
      where
        by_place : (e ≡ y) ⊎ In e ys → In e ys
        by_place (inl same) = let l = all_in (IsLess x) xs ox.0 e i in absurd (never_itself x x (subst (IsLess x) (same ∙ sym first) l) (subst (IsLess x) (same ∙ sym first) l))
        by_place (inr j) = j

    back : (e : Entry) → In e ys → In e xs
    back e i = by_place (b e (inr i))
      where
        by_place : (e ≡ x) ⊎ In e xs → In e xs
        by_place (inl same) = let l = all_in (IsLess y) ys oy.0 e i in absurd (never_itself y y (subst (IsLess y) (same ∙ first) l) (subst (IsLess y) (same ∙ first) l))
        by_place (inr j) = j

    joined : x ≡ y → xs ≡ ys → ◌≡◌ {A = List Entry} (x ∷ xs) (y ∷ ys)
    joined p q = cc

-- ---- keys that differ

abbrev differ : Entry → Entry → Bool
differ a b = not (bytes_eq a.key b.key)

differ_both : (a b : Entry) → differ a b ≡ differ b a
differ_both a b = ap not (same_bool (bytes_eq a.key b.key) (bytes_eq b.key a.key)
    (λ h. (bytes_eq-Decides b.key a.key).1 (sym ((bytes_eq-Decides a.key b.key).0 h)))
    (λ h. (bytes_eq-Decides a.key b.key).1 (sym ((bytes_eq-Decides b.key a.key).0 h))))

not_itself : (a : Entry) → differ a a ≡ false
not_itself a = ap not ((bytes_eq-Decides a.key a.key).1 refl)

less_from : (a b : Entry) → is_lt (slice_cmp nat_cmp b.key a.key) ≡ false → differ a b ≡ true → IsLess a b
less_from a b ge other = by_order (slice_cmp nat_cmp a.key b.key) refl
  where
    by_order : (o : Ordering) → slice_cmp nat_cmp a.key b.key ≡ o → slice_cmp nat_cmp a.key b.key ≡ Less
    by_order Less e = e
    by_order Equal e = absurd (true≢false (sym other ∙ ap not ((bytes_eq-Decides a.key b.key).1 (exact_bytes a.key b.key e))))
    by_order Greater e = absurd (true≢false (sym (ap is_lt (nat_list_cmp_total.antisymm b.key a.key ∙ ap ordering_reverse e)) ∙ ge))

-- the keys of a history's values are so, each beside those after it
module _ (w : Written) where
  abbrev last : List Entry
  last = entry (codes "store") w.number ∷ []

  abbrev third : List Entry
  third = entry (codes "newest") w.newest ∷ last

  abbrev second : List Entry
  second = entry (codes "format") 1 ∷ third

  keys_differ : Pairwise differ (entries_of w)
  keys_differ = (
    All-from_recursion (λ y. differ (entry (codes "floor") w.floor) y ≡ true) second (refl, (refl, (refl, tt))),
    (
      All-from_recursion (λ y. differ (entry (codes "format") 1) y ≡ true) third (refl, (refl, tt)),
      (
        All-from_recursion (λ y. differ (entry (codes "newest") w.newest) y ≡ true) last (refl, tt),
        (All-nil (λ y. differ (entry (codes "store") w.number) y ≡ true), tt),
      ),
    ),
  )

  keys_ascend : Ordered IsLess (entries_of w)
  keys_ascend = (
    All-from_recursion (IsLess (entry (codes "floor") w.floor)) second (refl, (refl, (refl, tt))),
    (
      All-from_recursion (IsLess (entry (codes "format") 1)) third (refl, (refl, tt)),
      (
        All-from_recursion (IsLess (entry (codes "newest") w.newest)) last (refl, tt),
        (All-nil (IsLess (entry (codes "store") w.number)), tt),
      ),
    ),
  )

pub entries_are : (w : Written) (es : List Entry) → IsSorted entry_cmp es → IsPermutation (entries_of w) es → es ≡ entries_of w
entries_are w es sorted perm =
    let differs = pairwise_permuted differ differ_both (entries_of w) es (λ e i. not_itself e) perm (keys_differ w) in
    same_lists es (entries_of w)
    (ordered IsLess (λ a b c p q. nat_list_cmp_total.trans a.key b.key c.key p q) es
    (λ k d lt. less_from (get_or es k d) (get_or es (k + 1) d) (sorted k d (omega arith) lt) (pair_in_order differ es differs k (k + 1) d (omega arith) lt)))
    (keys_ascend w)
    (λ e i. in_permuted es (entries_of w) e (IsPermutation-sym (entries_of w) es perm) i)
    (λ e i. in_permuted (entries_of w) es e perm i)
