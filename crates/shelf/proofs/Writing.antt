-- A value written at a place.
use Rattle.std.proofs.Common.{◌≡◌, ℕ, zero, suc, ◌<◌, ◌≤◌, List, [], ◌∷◌, ◌++◌, length, get_or, set, refl, ap, sym, subst, ◌∙◌, arith}
use Rattle.std.specs.Prelude.{Option, Some, None, IsSome, IfSome, ◌↔◌}
use Rattle.std.specs.Option.{OnSome, option_copied_mut}
use Rattle.std.specs.Borrow.{MutBor}
use Rattle.std.specs.List.{slice_get, zip}
use Rattle.std.specs.Prelude.{Bool, true, false, cond, ◌⊎◌}
use Rattle.std.proofs.Common.{inl, inr, append_assoc, take, drop}
use mathlib.Core.Bool.{true≢false}
use Rattle.std.specs.Map.{lookup, set_value, keys_of, values_of}
use Rattle.std.specs.List.Sorted.{IsStrictlySortedBy}
use Rattle.std.specs.Ordering.{is_eq}
use Rattle.std.specs.declared.cmp.Ordering.TheVariants.{Less}
use Rattle.std.proofs.lemmas.Bool.{cases_lt}
use Rattle.std.proofs.lemmas.List.{map-append, length-map, get_or_default, set-get_or}
use Rattle.std.proofs.lemmas.Map.Keys.{sorted_head, sorted_tail}
use Rattle.shelf.specs.Texts.{text_cmp, is_text}
use Rattle.shelf.specs.inside.Places.{AreSorted, AreBelow, AreFilled, IsAt, IsFound, joined}
use Rattle.shelf.specs.inside.Walks.{IsShelf}
use Rattle.shelf.specs.inside.Blocks.{cuts, entries}
use Rattle.shelf.specs.inside.Written.{with_value}
use Rattle.shelf.proofs.Blocks.{get_at}
use Rattle.shelf.proofs.Order.{head_at, text_itself, sorted_block, filled_at}
use Rattle.shelf.proofs.Looking.{greater, all_is, found as looked_up}

pub on_some : {A : Type 0} {P : Type 0} (o : Option A) → P → OnSome o P
on_some None p = tt
on_some (Some x) p = p

none_past : {V : Type 0} (vs : List V) (i : ℕ) → length vs ≤ i → slice_get vs i ≡ None
none_past [] i h = refl
none_past (v ∷ vs) zero h = absurd (omega arith)
none_past (v ∷ vs) (suc i) h = none_past vs i (omega arith)

pub item_is : {V : Type 0} (r : Option (MutBor V)) (vs : List V) (i n : ℕ) → IsSome r ↔ (i < n) → n ≡ length vs → IfSome r (λ x. x.now ≡ get_or vs i x.now) → option_copied_mut r ≡ slice_get vs i
item_is None vs i n some len reads = sym (none_past vs i (by_place (cases_lt i n)))
  where
    by_place : (i < n) ⊎ (n ≤ i) → length vs ≤ i
    by_place (inl within) = absurd (true≢false (sym (some.1 within)))
    by_place (inr past) = omega arith
item_is (Some x) vs i n some len reads = sym (get_at vs i x.now (let within = some.0 refl in omega arith) reads)

zip_set : {V : Type 0} (ks : List (List ℕ)) (vs : List V) (i : ℕ) (w : V) → zip ks (set vs i w) ≡ with_value (zip ks vs) i w
zip_set [] vs i w = refl
zip_set (k ∷ ks) [] i w = refl
zip_set (k ∷ ks) (v ∷ vs) zero w = refl
zip_set (k ∷ ks) (v ∷ vs) (suc i) w = ap (λ es. (k, v) ∷ es) (zip_set ks vs i w)

pub value_put : {V : Type 0} (texts ends : List ℕ) (values : List V) (es : List (List ℕ × V)) → entries texts ends values ≡ es → (i : ℕ) (w : V) → entries texts ends (set values i w) ≡ with_value es i w
value_put texts ends values es view i w = zip_set (cuts 0 texts ends) values i w ∙ ap (λ fs. with_value fs i w) view

module _ {V : Type 0} (key : List ℕ) where
  -- where the key is none of the texts nothing is written
  pub set_none : (es : List (List ℕ × V)) (w : V) → None ≡ lookup (is_text key) es → es ≡ set_value (is_text key) es w
  set_none [] w h = refl
  set_none (e ∷ es) w h = by_test (is_text key e.0) h (set_none es w)
    where
      by_test : (b : Bool) → None ≡ cond b (Some e.1) (lookup (is_text key) es) → (None ≡ lookup (is_text key) es → es ≡ set_value (is_text key) es w) → e ∷ es ≡ cond b ((e.0, w) ∷ es) (e ∷ set_value (is_text key) es w)
      by_test true h rest = cc
      by_test false h rest = ap (λ fs. e ∷ fs) (rest h)

  set_past : (xs ys : List (List ℕ × V)) (w : V) → AreBelow key xs → set_value (is_text key) (xs ++ ys) w ≡ xs ++ set_value (is_text key) ys w
  set_past [] ys w h = refl
  set_past (x ∷ xs) ys w h =
      ap (λ o. cond (is_eq o) ((x.0, w) ∷ xs ++ ys) (x ∷ set_value (is_text key) (xs ++ ys) w)) (greater x.0 key h.0) ∙ ap (λ es. x ∷ es) (set_past xs ys w h.1)

  set_here : (es ys : List (List ℕ × V)) (i : ℕ) (w : V) → AreSorted es → i < length es → get_or (keys_of es) i [] ≡ key → set_value (is_text key) (es ++ ys) w ≡ with_value es i w ++ ys
  set_here [] ys i w sorted within same = absurd (omega arith)
  set_here (e ∷ es) ys zero w sorted within same =
      ap (λ o. cond (is_eq o) ((e.0, w) ∷ es ++ ys) (e ∷ set_value (is_text key) (es ++ ys) w)) (ap (text_cmp key) same ∙ text_itself key)
  set_here (e ∷ es) ys (suc i) w sorted within same =
      ap (λ o. cond (is_eq o) ((e.0, w) ∷ es ++ ys) (e ∷ set_value (is_text key) (es ++ ys) w)) (greater e.0 key (subst (λ k. text_cmp e.0 k ≡ Less) same (head_at es e.0 i (sorted_head text_cmp e.0 (keys_of es) sorted) (omega arith))))
      ∙ ap (λ fs. e ∷ fs) (set_here es ys i w (sorted_tail text_cmp e.0 (keys_of es) sorted) (omega arith) same)

module _ {V : Type 0} where
  keys_with : (es : List (List ℕ × V)) (i : ℕ) (w : V) → keys_of (with_value es i w) ≡ keys_of es
  keys_with [] i w = refl
  keys_with (e ∷ es) zero w = refl
  keys_with (e ∷ es) (suc i) w = ap (λ ks. e.0 ∷ ks) (keys_with es i w)

  pub joined_set : (bs : List (List (List ℕ × V))) (at : ℕ) (b : List (List ℕ × V)) → at < length bs → joined (set bs at b) ≡ joined (take at bs) ++ (b ++ joined (drop (suc at) bs))
  joined_set [] at b h = absurd (omega arith)
  joined_set (c ∷ bs) zero b h = refl
  joined_set (c ∷ bs) (suc at) b h = ap (λ es. c ++ es) (joined_set bs at b (omega arith)) ∙ sym (append_assoc c (joined (take at bs)) (b ++ joined (drop (suc at) bs)))

  keys_joined : (bs : List (List (List ℕ × V))) (at : ℕ) (b : List (List ℕ × V)) → keys_of b ≡ keys_of (get_or bs at []) → keys_of (joined (set bs at b)) ≡ keys_of (joined bs)
  keys_joined [] at b h = refl
  keys_joined (c ∷ bs) zero b h = map-append (λ e. e.0) b (joined bs) ∙ ap (λ ks. ks ++ keys_of (joined bs)) h ∙ sym (map-append (λ e. e.0) c (joined bs))
  keys_joined (c ∷ bs) (suc at) b h =
      map-append (λ e. e.0) c (joined (set bs at b)) ∙ ap (λ ks. keys_of c ++ ks) (keys_joined bs at b h) ∙ sym (map-append (λ e. e.0) c (joined bs))

  pub some_value : (es : List (List ℕ × V)) (i : ℕ) → i < length es → slice_get (values_of es) i ≡ None → ⊥
  some_value [] i h none = absurd (omega arith)
  some_value (e ∷ es) zero h none = cc
  some_value (e ∷ es) (suc i) h none = some_value es i (omega arith) none

  filled_set : (bs : List (List (List ℕ × V))) (at : ℕ) (b : List (List ℕ × V)) → 0 < length b → AreFilled bs → AreFilled (set bs at b)
  filled_set [] at b some filled = filled
  filled_set (c ∷ bs) zero b some filled = (some, filled.1)
  filled_set (c ∷ bs) (suc at) b some filled = (filled.0, filled_set bs at b some filled.1)

  -- one value of a block written
  module _ (key : List ℕ) (at i : ℕ) (bs : List (List (List ℕ × V))) (shelf : IsShelf bs) (found : IsFound key at i bs) (b : List (List ℕ × V)) (reads : b ≡ get_or bs at b) where
    block_is : b ≡ get_or bs at []
    block_is = reads ∙ get_or_default bs at b [] found.block.within

    sorted : AreSorted b
    sorted = sorted_block bs at b shelf.sorted found.block.within reads

    there : IsAt key i b
    there = subst (IsAt key i) (sym block_is) found.there

    pub set_shelf : (w : V) (c : List (List ℕ × V)) → c ≡ with_value b i w → IsShelf (set bs at c)
    set_shelf w c is = record {
      filled = filled_set bs at c some shelf.filled;
      sorted = subst (IsStrictlySortedBy text_cmp) (sym (keys_joined bs at c same)) shelf.sorted;
    }
      where
        same : keys_of c ≡ keys_of (get_or bs at [])
        same = ap keys_of is ∙ keys_with b i w ∙ ap keys_of block_is

        some : 0 < length c
        some =
            let n = ap length same in
            let m = filled_at bs at shelf.filled found.block.within in
            omega (arith, length-map c (λ e. e.0), length-map (get_or bs at []) (λ e. e.0))

    pub set_entries : (w : V) (c : List (List ℕ × V)) → c ≡ with_value b i w → joined (set bs at c) ≡ set_value (is_text key) (joined bs) w
    set_entries w c is =
        joined_set bs at c found.block.within
        ∙ ap (λ es. joined (take at bs) ++ (es ++ joined (drop (suc at) bs))) is
        ∙ ap (λ es. joined (take at bs) ++ es) (sym (set_here key b (joined (drop (suc at) bs)) i w sorted there.within there.same))
        ∙ sym (set_past key (joined (take at bs)) (b ++ joined (drop (suc at) bs)) w found.block.below)
        ∙ ap (λ es. set_value (is_text key) es w) (sym (all_is key at bs found.block b reads))

    -- nothing written
    pub kept : (c : List (List ℕ × V)) → c ≡ b → set bs at c ≡ bs
    kept c is = ap (set bs at) (is ∙ block_is) ∙ set-get_or bs at []

    pub kept_shelf : (c : List (List ℕ × V)) → c ≡ b → IsShelf (set bs at c)
    kept_shelf c is = subst IsShelf (sym (kept c is)) shelf

    pub found_value : (v : V) → slice_get (values_of b) i ≡ Some v → Some v ≡ lookup (is_text key) (joined bs)
    found_value v value = looked_up key at bs found.block b reads i v sorted there value

    pub found_there : slice_get (values_of b) i ≡ lookup (is_text key) (joined bs)
    found_there = by_value (slice_get (values_of b) i) refl
      where
        by_value : (o : Option V) → slice_get (values_of b) i ≡ o → o ≡ lookup (is_text key) (joined bs)
        by_value None is = absurd (some_value b i there.within is)
        by_value (Some v) is = found_value v is
