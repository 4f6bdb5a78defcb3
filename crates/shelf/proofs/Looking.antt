-- A text looked up among entries in order, and those from it on.
use Rattle.std.proofs.Common.{◌≡◌, ℕ, zero, suc, ◌<◌, List, [], ◌∷◌, ◌++◌, length, take, drop, get_or, refl, ap, sym, subst, ◌∙◌, arith, append_assoc}
use Rattle.std.specs.Prelude.{true, cond, ◌&&◌, Some, None}
use Rattle.std.specs.List.{AllByRecursion, slice_get}
use Rattle.std.specs.Map.{lookup, keys_of, values_of}
use Rattle.std.specs.BTreeMap.Range.{entries_between}
use Rattle.std.specs.Ordering.{ordering_reverse, is_eq, is_le}
use Rattle.std.specs.declared.ops.Bound.TheVariants.{Included, Unbounded}
use Rattle.std.specs.declared.cmp.Ordering.{Ordering}
use Rattle.std.specs.declared.cmp.Ordering.TheVariants.{Less, Equal, Greater}
use Rattle.std.proofs.lemmas.List.{get_or_default, take-append-drop, drop-append-le}
use Rattle.std.proofs.lemmas.Cmp.{nat_list_cmp_total}
use Rattle.std.proofs.lemmas.Map.Keys.{sorted_head, sorted_tail}
use Rattle.shelf.specs.Texts.{text_cmp, is_text}
use Rattle.shelf.specs.inside.Places.{AreSorted, AreBelow, AreAbove, AreFrom, IsAt, IsBetween, IsPlace, IsBlockOf, joined}
use Rattle.shelf.proofs.Order.{text_itself, head_at, joined_split, joined_at}

pub greater : (a b : List ℕ) → text_cmp a b ≡ Less → text_cmp b a ≡ Greater
greater a b h = nat_list_cmp_total.antisymm b a ∙ ap ordering_reverse h

module _ {V : Type 0} where
  pub below_append : (key : List ℕ) (xs ys : List (List ℕ × V)) → AreBelow key xs → AreBelow key ys → AreBelow key (xs ++ ys)
  below_append key [] ys h k = k
  below_append key (x ∷ xs) ys h k = (h.0, below_append key xs ys h.1 k)

  pub above_append : (key : List ℕ) (xs ys : List (List ℕ × V)) → AreAbove key xs → AreAbove key ys → AreAbove key (xs ++ ys)
  above_append key [] ys h k = k
  above_append key (x ∷ xs) ys h k = (h.0, above_append key xs ys h.1 k)

  pub from_append : (key : List ℕ) (xs ys : List (List ℕ × V)) → AreFrom key xs → AreFrom key ys → AreFrom key (xs ++ ys)
  from_append key [] ys h k = k
  from_append key (x ∷ xs) ys h k = (h.0, from_append key xs ys h.1 k)

  pub above_from_key : (key : List ℕ) (es : List (List ℕ × V)) → AreAbove key es → AreFrom key es
  above_from_key key [] h = tt
  above_from_key key (e ∷ es) h = (λ is. let both : Less ≡ Greater = sym h.0 ∙ is in cc, above_from_key key es h.1)

  -- the blocks before and after one
  pub joined_around : (bs : List (List (List ℕ × V))) (i : ℕ) → i < length bs → joined bs ≡ joined (take i bs) ++ (get_or bs i [] ++ joined (drop (suc i) bs))
  joined_around bs i h = sym (joined_split bs i) ∙ ap (λ es. joined (take i bs) ++ es) (joined_at bs i h)

  -- where the key is the text at a place, those before it are below
  pub below_at : (key : List ℕ) (es : List (List ℕ × V)) (i : ℕ) → AreSorted es → i < length es → get_or (keys_of es) i [] ≡ key → AreBelow key (take i es)
  below_at key es zero sorted within same = tt
  below_at key [] (suc i) sorted within same = tt
  below_at key (e ∷ es) (suc i) sorted within same =
      (subst (λ k. text_cmp e.0 k ≡ Less) same (head_at es e.0 i (sorted_head text_cmp e.0 (keys_of es) sorted) (omega arith)), below_at key es i (sorted_tail text_cmp e.0 (keys_of es) sorted) (omega arith) same)

  pub from_at : (key : List ℕ) (es : List (List ℕ × V)) (i : ℕ) → AreSorted es → i < length es → get_or (keys_of es) i [] ≡ key → AreFrom key (drop i es)
  from_at key [] i sorted within same = absurd (omega arith)
  from_at key (e ∷ es) zero sorted within same =
      (λ is. let both : Equal ≡ Greater = sym (text_itself key) ∙ ap (text_cmp key) (sym same) ∙ is in cc, rest)
    where
      rest : AreFrom key es
      rest = subst (λ k. AreFrom k es) same (above_each e.0 es (sorted_head text_cmp e.0 (keys_of es) sorted))
        where
          above_each : (a : List ℕ) (fs : List (List ℕ × V)) → AllByRecursion (λ k. text_cmp a k ≡ Less) (keys_of fs) → AreFrom a fs
          above_each a [] h = tt
          above_each a (f ∷ fs) h = (λ is. let both : Less ≡ Greater = sym h.0 ∙ is in cc, above_each a fs h.1)
  from_at key (e ∷ es) (suc i) sorted within same = from_at key es i (sorted_tail text_cmp e.0 (keys_of es) sorted) (omega arith) same

  pub place_at : (key : List ℕ) (i : ℕ) (es : List (List ℕ × V)) → AreSorted es → IsAt key i es → IsPlace key i es
  place_at key i es sorted at = record { within = omega (arith, at.within); below = below_at key es i sorted at.within at.same; from = from_at key es i sorted at.within at.same }

  pub place_between : (key : List ℕ) (i : ℕ) (es : List (List ℕ × V)) → IsBetween key i es → IsPlace key i es
  place_between key i es at = record { within = at.within; below = at.below; from = above_from_key key (drop i es) at.above }

  -- texts below the key are passed over
  pub past : (key : List ℕ) (xs ys : List (List ℕ × V)) → AreBelow key xs → lookup (is_text key) (xs ++ ys) ≡ lookup (is_text key) ys
  past key [] ys h = refl
  past key (x ∷ xs) ys h = ap (λ o. cond (is_eq o) (Some x.1) (lookup (is_text key) (xs ++ ys))) (greater x.0 key h.0) ∙ past key xs ys h.1

  pub none_above : (key : List ℕ) (ys : List (List ℕ × V)) → AreAbove key ys → lookup (is_text key) ys ≡ None
  none_above key [] h = refl
  none_above key (y ∷ ys) h = ap (λ o. cond (is_eq o) (Some y.1) (lookup (is_text key) ys)) h.0 ∙ none_above key ys h.1

  here : (key : List ℕ) (es ys : List (List ℕ × V)) (i : ℕ) (v : V) → AreSorted es → i < length es → get_or (keys_of es) i [] ≡ key → slice_get (values_of es) i ≡ Some v → lookup (is_text key) (es ++ ys) ≡ Some v
  here key [] ys i v sorted within same value = absurd (omega arith)
  here key (e ∷ es) ys zero v sorted within same value =
      ap (λ o. cond (is_eq o) (Some e.1) (lookup (is_text key) (es ++ ys))) (ap (text_cmp key) same ∙ text_itself key) ∙ value
  here key (e ∷ es) ys (suc i) v sorted within same value =
      ap (λ o. cond (is_eq o) (Some e.1) (lookup (is_text key) (es ++ ys))) (greater e.0 key (subst (λ k. text_cmp e.0 k ≡ Less) same (head_at es e.0 i (sorted_head text_cmp e.0 (keys_of es) sorted) (omega arith))))
      ∙ here key es ys i v (sorted_tail text_cmp e.0 (keys_of es) sorted) (omega arith) same value

  -- of all entries those from the key on
  pub between_split : (key : List ℕ) (xs ys : List (List ℕ × V)) → AreBelow key xs → AreFrom key ys → entries_between text_cmp (Included key) Unbounded (xs ++ ys) ≡ ys
  between_split key [] [] h k = refl
  between_split key [] (y ∷ ys) h k = by_order (text_cmp key y.0) refl ∙ ap (λ es. y ∷ es) (between_split key [] ys tt k.1)
    where
      by_order : (o : Ordering) → text_cmp key y.0 ≡ o → cond (is_le (text_cmp key y.0) && true) (y ∷ entries_between text_cmp (Included key) Unbounded ys) (entries_between text_cmp (Included key) Unbounded ys) ≡ y ∷ entries_between text_cmp (Included key) Unbounded ys
      by_order Less is = ap (λ r. cond (is_le r && true) (y ∷ entries_between text_cmp (Included key) Unbounded ys) (entries_between text_cmp (Included key) Unbounded ys)) is
      by_order Equal is = ap (λ r. cond (is_le r && true) (y ∷ entries_between text_cmp (Included key) Unbounded ys) (entries_between text_cmp (Included key) Unbounded ys)) is
      by_order Greater is = absurd (k.0 is)
  between_split key (x ∷ xs) ys h k =
      ap (λ r. cond (is_le r && true) (x ∷ entries_between text_cmp (Included key) Unbounded (xs ++ ys)) (entries_between text_cmp (Included key) Unbounded (xs ++ ys))) (greater x.0 key h.0)
      ∙ between_split key xs ys h.1 k

  -- the block in which the key stands, or would
  module _ (key : List ℕ) (at : ℕ) (bs : List (List (List ℕ × V))) (is : IsBlockOf key at bs) (b : List (List ℕ × V)) (reads : b ≡ get_or bs at b) where
    pub block_is : b ≡ get_or bs at []
    block_is = reads ∙ get_or_default bs at b [] is.within

    pub all_is : joined bs ≡ joined (take at bs) ++ (b ++ joined (drop (suc at) bs))
    all_is = joined_around bs at is.within ∙ ap (λ es. joined (take at bs) ++ (es ++ joined (drop (suc at) bs))) (sym block_is)

    pub found : (i : ℕ) (v : V) → AreSorted b → IsAt key i b → slice_get (values_of b) i ≡ Some v → Some v ≡ lookup (is_text key) (joined bs)
    found i v sorted there value = sym (ap (lookup (is_text key)) all_is ∙ past key (joined (take at bs)) (b ++ joined (drop (suc at) bs)) is.below ∙ here key b (joined (drop (suc at) bs)) i v sorted there.within there.same value)

    pub missing : (i : ℕ) → IsBetween key i b → None ≡ lookup (is_text key) (joined bs)
    missing i there =
        sym (ap (lookup (is_text key)) all_is ∙ past key (joined (take at bs)) (b ++ joined (drop (suc at) bs)) is.below
        ∙ ap (λ es. lookup (is_text key) (es ++ joined (drop (suc at) bs))) (sym (take-append-drop i b))
        ∙ ap (lookup (is_text key)) (append_assoc (take i b) (drop i b) (joined (drop (suc at) bs)))
        ∙ past key (take i b) (drop i b ++ joined (drop (suc at) bs)) there.below
        ∙ none_above key (drop i b ++ joined (drop (suc at) bs)) (above_append key (drop i b) (joined (drop (suc at) bs)) there.above is.above))

    pub from_place : (i : ℕ) → IsPlace key i b → drop i (joined (drop at bs)) ≡ entries_between text_cmp (Included key) Unbounded (joined bs)
    from_place i there =
        ap (drop i) (joined_at bs at is.within ∙ ap (λ es. es ++ joined (drop (suc at) bs)) (sym block_is))
        ∙ drop-append-le i b (joined (drop (suc at) bs)) there.within
        ∙ sym (ap (entries_between text_cmp (Included key) Unbounded)
        (all_is ∙ ap (λ es. joined (take at bs) ++ (es ++ joined (drop (suc at) bs))) (sym (take-append-drop i b))
        ∙ ap (λ es. joined (take at bs) ++ es) (append_assoc (take i b) (drop i b) (joined (drop (suc at) bs)))
        ∙ sym (append_assoc (joined (take at bs)) (take i b) (drop i b ++ joined (drop (suc at) bs))))
        ∙ between_split key (joined (take at bs) ++ take i b) (drop i b ++ joined (drop (suc at) bs)) (below_append key (joined (take at bs)) (take i b) is.below there.below)
        (from_append key (drop i b) (joined (drop (suc at) bs)) there.from (above_from_key key (joined (drop (suc at) bs)) is.above)))
