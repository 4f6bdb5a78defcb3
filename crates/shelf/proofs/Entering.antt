-- A text entered among those in order.
use Rattle.std.proofs.Common.{◌≡◌, ℕ, zero, suc, ◌<◌, List, [], ◌∷◌, ◌++◌, length, take, drop, get_or, set, refl, ap, sym, subst, ◌∙◌, arith, append_assoc}
use Rattle.std.specs.Prelude.{Some}
use Rattle.std.specs.List.{AllByRecursion, insert, slice_get}
use Rattle.std.specs.List.Sorted.{IsStrictlySortedBy}
use Rattle.std.specs.Map.{keys_of, values_of, lookup}
use Rattle.std.specs.BTreeMap.{insert_entry}
use Rattle.std.specs.Ordering.{match_ordering}
use Rattle.std.specs.declared.cmp.Ordering.TheVariants.{Less}
use Rattle.std.proofs.lemmas.List.{take-append-drop, get_or_default}
use Rattle.std.proofs.lemmas.Map.Keys.{sorted_head, sorted_tail}
use Rattle.shelf.specs.Texts.{text_cmp, is_text}
use Rattle.shelf.specs.inside.Places.{AreSorted, AreBelow, AreAbove, AreFilled, IsAt, IsBetween, IsBlockOf, IsFound, joined}
use Rattle.shelf.specs.inside.Walks.{IsShelf}
use Rattle.shelf.specs.inside.Written.{with_value, entries_put}
use Rattle.shelf.proofs.Order.{head_at, text_itself, sorted_block}
use Rattle.shelf.proofs.Looking.{greater, all_is, below_append, above_append}
use Rattle.shelf.proofs.Writing.{joined_set, set_shelf, found_value}

-- a block read twice
pub read_twice : {V : Type 0} (bs : List (List (List ℕ × V))) (at : ℕ) (b c : List (List ℕ × V)) → at < length bs → b ≡ get_or bs at b → c ≡ get_or bs at c → b ≡ c
read_twice bs at b c within b_is c_is = b_is ∙ get_or_default bs at b c within ∙ sym c_is

module _ {V : Type 0} (key : List ℕ) where
  insert_past : (xs ys : List (List ℕ × V)) (v : V) → AreBelow key xs → insert_entry text_cmp (xs ++ ys) key v ≡ xs ++ insert_entry text_cmp ys key v
  insert_past [] ys v h = refl
  insert_past (x ∷ xs) ys v h =
      ap (λ o. match_ordering o ((key, v) ∷ x ∷ xs ++ ys) ((x.0, v) ∷ xs ++ ys) (x ∷ insert_entry text_cmp (xs ++ ys) key v)) (greater x.0 key h.0) ∙ ap (λ es. x ∷ es) (insert_past xs ys v h.1)

  insert_front : (ys : List (List ℕ × V)) (v : V) → AreAbove key ys → insert_entry text_cmp ys key v ≡ (key, v) ∷ ys
  insert_front [] v h = refl
  insert_front (y ∷ ys) v h = ap (λ o. match_ordering o ((key, v) ∷ y ∷ ys) ((y.0, v) ∷ ys) (y ∷ insert_entry text_cmp ys key v)) h.0

  insert_here : (es ys : List (List ℕ × V)) (i : ℕ) (v : V) → AreSorted es → i < length es → get_or (keys_of es) i [] ≡ key → insert_entry text_cmp (es ++ ys) key v ≡ with_value es i v ++ ys
  insert_here [] ys i v sorted within same = absurd (omega arith)
  insert_here (e ∷ es) ys zero v sorted within same =
      ap (λ o. match_ordering o ((key, v) ∷ e ∷ es ++ ys) ((e.0, v) ∷ es ++ ys) (e ∷ insert_entry text_cmp (es ++ ys) key v)) (ap (text_cmp key) same ∙ text_itself key)
  insert_here (e ∷ es) ys (suc i) v sorted within same =
      ap (λ o. match_ordering o ((key, v) ∷ e ∷ es ++ ys) ((e.0, v) ∷ es ++ ys) (e ∷ insert_entry text_cmp (es ++ ys) key v)) (greater e.0 key (subst (λ k. text_cmp e.0 k ≡ Less) same (head_at es e.0 i (sorted_head text_cmp e.0 (keys_of es) sorted) (omega arith))))
      ∙ ap (λ fs. e ∷ fs) (insert_here es ys i v (sorted_tail text_cmp e.0 (keys_of es) sorted) (omega arith) same)

  all_put : (P : List ℕ → Type 0) (xs ys : List (List ℕ × V)) (v : V) → P key → AllByRecursion P (keys_of (xs ++ ys)) → AllByRecursion P (keys_of (xs ++ (key, v) ∷ ys))
  all_put P [] ys v p h = (p, h)
  all_put P (x ∷ xs) ys v p h = (h.0, all_put P xs ys v p h.1)

  above_keys : (ys : List (List ℕ × V)) → AreAbove key ys → AllByRecursion (λ k. text_cmp key k ≡ Less) (keys_of ys)
  above_keys [] h = tt
  above_keys (y ∷ ys) h = (h.0, above_keys ys h.1)

  sorted_put : (xs ys : List (List ℕ × V)) (v : V) → AreSorted (xs ++ ys) → AreBelow key xs → AreAbove key ys → AreSorted (xs ++ (key, v) ∷ ys)
  unfolding IsStrictlySortedBy
  sorted_put [] ys v sorted h k = (above_keys ys k, sorted)
  sorted_put (x ∷ xs) ys v sorted h k = (all_put (λ q. text_cmp x.0 q ≡ Less) xs ys v h.0 sorted.0, sorted_put xs ys v sorted.1 h.1 k)

  module _ (at i : ℕ) (bs : List (List (List ℕ × V))) (is : IsBlockOf key at bs) (b : List (List ℕ × V)) (reads : b ≡ get_or bs at b) (there : IsBetween key i b) where
    parts : (x : List (List ℕ × V)) → joined (take at bs) ++ ((take i b ++ x) ++ joined (drop (suc at) bs)) ≡ (joined (take at bs) ++ take i b) ++ (x ++ joined (drop (suc at) bs))
    parts x = ap (λ es. joined (take at bs) ++ es) (append_assoc (take i b) x (joined (drop (suc at) bs))) ∙ sym (append_assoc (joined (take at bs)) (take i b) (x ++ joined (drop (suc at) bs)))

    all_parts : joined bs ≡ (joined (take at bs) ++ take i b) ++ (drop i b ++ joined (drop (suc at) bs))
    all_parts =
        all_is key at bs is b reads ∙ ap (λ es. joined (take at bs) ++ (es ++ joined (drop (suc at) bs))) (sym (take-append-drop i b)) ∙ parts (drop i b)

    put_parts : (v : V) → entries_put bs at i (key, v) ≡ (joined (take at bs) ++ take i b) ++ ((key, v) ∷ drop i b ++ joined (drop (suc at) bs))
    put_parts v =
        ap (λ c. joined (take at bs) ++ (insert c i (key, v) ++ joined (drop (suc at) bs))) (sym (reads ∙ get_or_default bs at b [] is.within)) ∙ parts ((key, v) ∷ drop i b)

    below : AreBelow key (joined (take at bs) ++ take i b)
    below = below_append key (joined (take at bs)) (take i b) is.below there.below

    above : AreAbove key (drop i b ++ joined (drop (suc at) bs))
    above = above_append key (drop i b) (joined (drop (suc at) bs)) there.above is.above

    pub entered : (v : V) → entries_put bs at i (key, v) ≡ insert_entry text_cmp (joined bs) key v
    entered v =
        put_parts v
        ∙ sym (ap (λ es. insert_entry text_cmp es key v) all_parts
        ∙ insert_past (joined (take at bs) ++ take i b) (drop i b ++ joined (drop (suc at) bs)) v below
        ∙ ap (λ es. (joined (take at bs) ++ take i b) ++ es) (insert_front (drop i b ++ joined (drop (suc at) bs)) v above))

    pub entered_shelf : (v : V) → AreSorted (joined bs) → (now : List (List (List ℕ × V))) → AreFilled now → joined now ≡ entries_put bs at i (key, v) → IsShelf now
    entered_shelf v sorted now filled same = record {
      filled = filled;
      sorted = subst AreSorted (sym (same ∙ put_parts v)) (sorted_put (joined (take at bs) ++ take i b) (drop i b ++ joined (drop (suc at) bs)) v (subst AreSorted all_parts sorted) below above);
    }

  -- a value written at a text that is there
  module _ (at i : ℕ) (bs : List (List (List ℕ × V))) (shelf : IsShelf bs) (is : IsBlockOf key at bs) (b : List (List ℕ × V)) (reads : b ≡ get_or bs at b) (there : IsAt key i b) where
    found : IsFound key at i bs
    found = record { block = is; there = subst (IsAt key i) (reads ∙ get_or_default bs at b [] is.within) there }

    pub replaced_shelf : (v : V) (c : List (List ℕ × V)) → c ≡ with_value b i v → IsShelf (set bs at c)
    replaced_shelf v c same = set_shelf key at i bs shelf found b reads v c same

    pub replaced : (v : V) (c : List (List ℕ × V)) → c ≡ with_value b i v → joined (set bs at c) ≡ insert_entry text_cmp (joined bs) key v
    replaced v c same =
        joined_set bs at c is.within
        ∙ ap (λ es. joined (take at bs) ++ (es ++ joined (drop (suc at) bs))) same
        ∙ ap (λ es. joined (take at bs) ++ es) (sym (insert_here b (joined (drop (suc at) bs)) i v (sorted_block bs at b shelf.sorted is.within reads) there.within there.same))
        ∙ sym (insert_past (joined (take at bs)) (b ++ joined (drop (suc at) bs)) v is.below)
        ∙ ap (λ es. insert_entry text_cmp es key v) (sym (all_is key at bs is b reads))

    pub replaced_value : (v : V) → slice_get (values_of b) i ≡ Some v → Some v ≡ lookup (is_text key) (joined bs)
    replaced_value v value = found_value key at i bs shelf found b reads v value
