-- A text taken out from among the blocks.
use Rattle.std.proofs.Common.{◌≡◌, ℕ, zero, suc, ◌<◌, List, [], ◌∷◌, ◌++◌, length, take, drop, get_or, set, refl, ap, sym, subst, ◌∙◌, arith}
use Rattle.std.specs.Prelude.{Bool, true, false, cond, Some, None}
use Rattle.std.specs.List.{AllByRecursion, slice_get, remove}
use Rattle.std.specs.List.Sorted.{IsStrictlySortedBy}
use Rattle.std.specs.Map.{lookup, keys_of, values_of, remove_entry}
use Rattle.std.specs.Ordering.{is_eq}
use Rattle.std.specs.declared.cmp.Ordering.{Ordering}
use Rattle.std.specs.declared.cmp.Ordering.TheVariants.{Less, Equal, Greater}
use Rattle.std.proofs.lemmas.List.{get_or_default}
use Rattle.std.proofs.lemmas.Map.Keys.{sorted_head, sorted_tail}
use Rattle.shelf.specs.Texts.{text_cmp, is_text}
use Rattle.shelf.specs.inside.Places.{AreSorted, AreAbove, AreBelow, AreFilled, IsFound, joined}
use Rattle.shelf.specs.inside.Walks.{IsShelf}
use Rattle.shelf.specs.inside.Written.{entries_out}
use Rattle.shelf.proofs.Order.{head_at, same_text, text_itself, sorted_at}
use Rattle.shelf.proofs.Looking.{greater, none_above, all_is}
use Rattle.shelf.proofs.Spots.{itself, keys_above}
use Rattle.shelf.proofs.Writing.{joined_set, found_value}

module _ {V : Type 0} (key : List ℕ) where
  -- where the key is none of the texts nothing is taken out
  pub out_none : (es : List (List ℕ × V)) → lookup (is_text key) es ≡ None → es ≡ remove_entry (is_text key) es
  out_none [] h = refl
  out_none (e ∷ es) h = by_test (is_text key e.0) h (out_none es)
    where
      by_test : (b : Bool) → cond b (Some e.1) (lookup (is_text key) es) ≡ None → (lookup (is_text key) es ≡ None → es ≡ remove_entry (is_text key) es) → e ∷ es ≡ cond b es (e ∷ remove_entry (is_text key) es)
      by_test true h rest = cc
      by_test false h rest = ap (λ fs. e ∷ fs) (rest h)

  out_past : (xs ys : List (List ℕ × V)) → AreBelow key xs → remove_entry (is_text key) (xs ++ ys) ≡ xs ++ remove_entry (is_text key) ys
  out_past [] ys h = refl
  out_past (x ∷ xs) ys h =
      ap (λ o. cond (is_eq o) (xs ++ ys) (x ∷ remove_entry (is_text key) (xs ++ ys))) (greater x.0 key h.0) ∙ ap (λ es. x ∷ es) (out_past xs ys h.1)

  out_here : (es ys : List (List ℕ × V)) (i : ℕ) → AreSorted es → i < length es → get_or (keys_of es) i [] ≡ key → remove_entry (is_text key) (es ++ ys) ≡ remove es i ++ ys
  out_here [] ys i sorted within same = absurd (omega arith)
  out_here (e ∷ es) ys zero sorted within same =
      ap (λ o. cond (is_eq o) (es ++ ys) (e ∷ remove_entry (is_text key) (es ++ ys))) (ap (text_cmp key) same ∙ text_itself key)
  out_here (e ∷ es) ys (suc i) sorted within same =
      ap (λ o. cond (is_eq o) (es ++ ys) (e ∷ remove_entry (is_text key) (es ++ ys))) (greater e.0 key (subst (λ k. text_cmp e.0 k ≡ Less) same (head_at es e.0 i (sorted_head text_cmp e.0 (keys_of es) sorted) (omega arith))))
      ∙ ap (λ fs. e ∷ fs) (out_here es ys i (sorted_tail text_cmp e.0 (keys_of es) sorted) (omega arith) same)

  -- a text that was taken out stands nowhere else
  pub gone : (es : List (List ℕ × V)) → AreSorted es → lookup (is_text key) (remove_entry (is_text key) es) ≡ None
  gone [] sorted = refl
  gone (e ∷ es) sorted = by_order (text_cmp key e.0) refl (gone es (sorted_tail text_cmp e.0 (keys_of es) sorted))
    where
      by_order : (o : Ordering) → text_cmp key e.0 ≡ o → lookup (is_text key) (remove_entry (is_text key) es) ≡ None → lookup (is_text key) (cond (is_eq o) es (e ∷ remove_entry (is_text key) es)) ≡ None
      by_order Less is rest = ap (λ o. cond (is_eq o) (Some e.1) (lookup (is_text key) (remove_entry (is_text key) es))) is ∙ rest
      by_order Equal is rest = none_above key es (subst (λ k. AreAbove k es) (sym (same_text key e.0 is)) (keys_above e.0 es (sorted_head text_cmp e.0 (keys_of es) sorted)))
      by_order Greater is rest = ap (λ o. cond (is_eq o) (Some e.1) (lookup (is_text key) (remove_entry (is_text key) es))) is ∙ rest

module _ {V : Type 0} where
  all_out : (P : List ℕ → Type 0) (test : List ℕ → Bool) (es : List (List ℕ × V)) → AllByRecursion P (keys_of es) → AllByRecursion P (keys_of (remove_entry test es))
  all_out P test [] h = h
  all_out P test (e ∷ es) h = by_test (test e.0) (all_out P test es h.1)
    where
      by_test : (b : Bool) → AllByRecursion P (keys_of (remove_entry test es)) → AllByRecursion P (keys_of (cond b es (e ∷ remove_entry test es)))
      by_test true rest = h.1
      by_test false rest = (h.0, rest)

  sorted_out : (test : List ℕ → Bool) (es : List (List ℕ × V)) → AreSorted es → AreSorted (remove_entry test es)
  unfolding IsStrictlySortedBy
  sorted_out test [] sorted = sorted
  sorted_out test (e ∷ es) sorted = by_test (test e.0) (sorted_out test es sorted.1)
    where
      by_test : (b : Bool) → AreSorted (remove_entry test es) → AreSorted (cond b es (e ∷ remove_entry test es))
      by_test true rest = sorted.1
      by_test false rest = (all_out (λ k. text_cmp e.0 k ≡ Less) test es sorted.0, rest)

  -- one text of a block taken out
  module _ (bs : List (List (List ℕ × V))) (at i : ℕ) (within : at < length bs) (b c : List (List ℕ × V)) (reads : b ≡ get_or bs at b) (is : c ≡ remove b i) where
    block_is : b ≡ get_or bs at []
    block_is = reads ∙ get_or_default bs at b [] within

    pub out_joined : joined (set bs at c) ≡ entries_out bs at i
    out_joined = joined_set bs at c within ∙ ap (λ es. joined (take at bs) ++ (es ++ joined (drop (suc at) bs))) (is ∙ ap (λ es. remove es i) block_is)

  -- the text that was found taken out
  module _ (key : List ℕ) (at i : ℕ) (bs : List (List (List ℕ × V))) (shelf : IsShelf bs) (found : IsFound key at i bs) where
    pub out_there : entries_out bs at i ≡ remove_entry (is_text key) (joined bs)
    out_there =
        let b = get_or bs at [] in
        let reads = itself bs at found.block.within in
        sym (ap (remove_entry (is_text key)) (all_is key at bs found.block b reads)
        ∙ out_past key (joined (take at bs)) (b ++ joined (drop (suc at) bs)) found.block.below
        ∙ ap (λ es. joined (take at bs) ++ es) (out_here key b (joined (drop (suc at) bs)) i (sorted_at bs at shelf.sorted found.block.within) found.there.within found.there.same))

    pub gone_there : lookup (is_text key) (entries_out bs at i) ≡ None
    gone_there = ap (lookup (is_text key)) out_there ∙ gone key (joined bs) shelf.sorted

    pub out_shelf : (now : List (List (List ℕ × V))) → AreFilled now → joined now ≡ entries_out bs at i → IsShelf now
    out_shelf now filled same = record {
      filled = filled;
      sorted = subst AreSorted (sym (same ∙ out_there)) (sorted_out (is_text key) (joined bs) shelf.sorted);
    }

    pub value_there : (v : V) → slice_get (values_of (get_or bs at [])) i ≡ Some v → Some v ≡ lookup (is_text key) (joined bs)
    value_there v value = found_value key at i bs shelf found (get_or bs at []) (itself bs at found.block.within) v value
