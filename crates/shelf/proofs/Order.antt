-- Entries in order, on both sides of a text.
use Rattle.std.proofs.Common.{◌≡◌, ℕ, zero, suc, ◌<◌, List, [], ◌∷◌, ◌++◌, length, take, drop, get_or, refl, ap, sym, subst, ◌∙◌, arith, append_assoc}
use Rattle.std.specs.List.{AllByRecursion}
use Rattle.std.specs.List.Sorted.{IsStrictlySortedBy}
use Rattle.std.specs.Map.{keys_of}
use Rattle.std.specs.Ordering.{ordering_reverse}
use Rattle.std.specs.declared.cmp.Ordering.{Ordering}
use Rattle.std.specs.declared.cmp.Ordering.TheVariants.{Less, Equal, Greater}
use Rattle.std.proofs.lemmas.Cmp.{nat_list_cmp_total}
use Rattle.std.proofs.lemmas.List.{get_or_default}
use Rattle.std.proofs.lemmas.Map.Keys.{sorted_head, sorted_tail}
use Rattle.std.proofs.lemmas.Map.Lookups.{exact_bytes}
use Rattle.shelf.specs.Texts.{text_cmp}
use Rattle.shelf.specs.inside.Places.{AreSorted, AreBelow, AreAbove, AreFilled, joined}

pub less_less : (a b c : List ℕ) → text_cmp a b ≡ Less → text_cmp b c ≡ Less → text_cmp a c ≡ Less
less_less a b c h k = nat_list_cmp_total.trans a b c h k

pub turned : (a b : List ℕ) → text_cmp a b ≡ Greater → text_cmp b a ≡ Less
turned a b h = nat_list_cmp_total.antisymm b a ∙ ap ordering_reverse h

pub same_text : (a b : List ℕ) → text_cmp a b ≡ Equal → a ≡ b
same_text a b h = exact_bytes a b h

pub text_itself : (a : List ℕ) → text_cmp a a ≡ Equal
text_itself a = itself (text_cmp a a) (nat_list_cmp_total.antisymm a a)
  where
    itself : (o : Ordering) → o ≡ ordering_reverse o → o ≡ Equal
    itself Less h = cc
    itself Equal h = refl
    itself Greater h = cc

module _ {V : Type 0} where
  pub head_at : (es : List (List ℕ × V)) (a : List ℕ) (i : ℕ) → AllByRecursion (λ k. text_cmp a k ≡ Less) (keys_of es) → i < length es → text_cmp a (get_or (keys_of es) i []) ≡ Less
  head_at [] a i h within = absurd (omega arith)
  head_at (e ∷ es) a zero h within = h.0
  head_at (e ∷ es) a (suc i) h within = head_at es a i h.1 (omega arith)

  -- an entry below the key has only such before it
  pub below_to : (key : List ℕ) (es : List (List ℕ × V)) (i : ℕ) → AreSorted es → i < length es → text_cmp (get_or (keys_of es) i []) key ≡ Less → AreBelow key (take (suc i) es)
  below_to key [] i sorted within h = absurd (omega arith)
  below_to key (e ∷ es) zero sorted within h = (h, tt)
  below_to key (e ∷ es) (suc i) sorted within h =
      (less_less e.0 (get_or (keys_of es) i []) key (head_at es e.0 i (sorted_head text_cmp e.0 (keys_of es) sorted) (omega arith)) h, below_to key es i (sorted_tail text_cmp e.0 (keys_of es) sorted) (omega arith) h)

  pub all_above : (key a : List ℕ) (es : List (List ℕ × V)) → text_cmp key a ≡ Less → AllByRecursion (λ k. text_cmp a k ≡ Less) (keys_of es) → AreAbove key es
  all_above key a [] h all = tt
  all_above key a (e ∷ es) h all = (less_less key a e.0 h all.0, all_above key a es h all.1)

  -- an entry above the key has only such after it
  pub above_from : (key : List ℕ) (es : List (List ℕ × V)) (i : ℕ) → AreSorted es → i < length es → text_cmp key (get_or (keys_of es) i []) ≡ Less → AreAbove key (drop i es)
  above_from key [] i sorted within h = absurd (omega arith)
  above_from key (e ∷ es) zero sorted within h = (h, all_above key e.0 es h (sorted_head text_cmp e.0 (keys_of es) sorted))
  above_from key (e ∷ es) (suc i) sorted within h = above_from key es i (sorted_tail text_cmp e.0 (keys_of es) sorted) (omega arith) h

  pub sorted_right : (xs ys : List (List ℕ × V)) → AreSorted (xs ++ ys) → AreSorted ys
  sorted_right [] ys sorted = sorted
  sorted_right (x ∷ xs) ys sorted = sorted_right xs ys (sorted_tail text_cmp x.0 (keys_of (xs ++ ys)) sorted)

  left_all : (P : List ℕ → Type 0) (xs ys : List (List ℕ × V)) → AllByRecursion P (keys_of (xs ++ ys)) → AllByRecursion P (keys_of xs)
  left_all P [] ys h = tt
  left_all P (x ∷ xs) ys h = (h.0, left_all P xs ys h.1)

  pub right_all : (P : List ℕ → Type 0) (xs ys : List (List ℕ × V)) → AllByRecursion P (keys_of (xs ++ ys)) → AllByRecursion P (keys_of ys)
  right_all P [] ys h = h
  right_all P (x ∷ xs) ys h = right_all P xs ys h.1

  pub sorted_left : (xs ys : List (List ℕ × V)) → AreSorted (xs ++ ys) → AreSorted xs
  unfolding IsStrictlySortedBy
  sorted_left [] ys sorted = tt
  sorted_left (x ∷ xs) ys sorted = (left_all (λ k. text_cmp x.0 k ≡ Less) xs ys sorted.0, sorted_left xs ys sorted.1)

  -- what stands before an entry that is not above the key is below it
  pub below_before : (key : List ℕ) (xs : List (List ℕ × V)) (e : List ℕ × V) (ys : List (List ℕ × V)) → AreSorted (xs ++ e ∷ ys) → (text_cmp e.0 key ≡ Greater → ⊥) → AreBelow key xs
  below_before key [] e ys sorted h = tt
  below_before key (x ∷ xs) e ys sorted h =
      (by_order (text_cmp e.0 key) refl, below_before key xs e ys (sorted_tail text_cmp x.0 (keys_of (xs ++ e ∷ ys)) sorted) h)
    where
      first : text_cmp x.0 e.0 ≡ Less
      first = (right_all (λ k. text_cmp x.0 k ≡ Less) xs (e ∷ ys) (sorted_head text_cmp x.0 (keys_of (xs ++ e ∷ ys)) sorted)).0

      by_order : (o : Ordering) → text_cmp e.0 key ≡ o → text_cmp x.0 key ≡ Less
      by_order Less is = less_less x.0 e.0 key first is
      by_order Equal is = subst (λ k. text_cmp x.0 k ≡ Less) (same_text e.0 key is) first
      by_order Greater is = absurd (h is)

  -- the blocks, and one of them
  pub joined_split : (bs : List (List (List ℕ × V))) (i : ℕ) → joined (take i bs) ++ joined (drop i bs) ≡ joined bs
  joined_split bs zero = refl
  joined_split [] (suc i) = refl
  joined_split (b ∷ bs) (suc i) = append_assoc b (joined (take i bs)) (joined (drop i bs)) ∙ ap (λ es. b ++ es) (joined_split bs i)

  pub joined_at : (bs : List (List (List ℕ × V))) (i : ℕ) → i < length bs → joined (drop i bs) ≡ get_or bs i [] ++ joined (drop (suc i) bs)
  joined_at [] i h = absurd (omega arith)
  joined_at (b ∷ bs) zero h = refl
  joined_at (b ∷ bs) (suc i) h = joined_at bs i (omega arith)

  pub filled_at : (bs : List (List (List ℕ × V))) (i : ℕ) → AreFilled bs → i < length bs → 0 < length (get_or bs i [])
  filled_at [] i filled h = absurd (omega arith)
  filled_at (b ∷ bs) zero filled h = filled.0
  filled_at (b ∷ bs) (suc i) filled h = filled_at bs i filled.1 (omega arith)

  sorted_around : (bs : List (List (List ℕ × V))) (i : ℕ) → AreSorted (joined bs) → i < length bs → AreSorted (joined (take i bs) ++ (get_or bs i [] ++ joined (drop (suc i) bs)))
  sorted_around bs i sorted h = subst AreSorted (sym (ap (λ es. joined (take i bs) ++ es) (sym (joined_at bs i h)) ∙ joined_split bs i)) sorted

  pub sorted_at : (bs : List (List (List ℕ × V))) (i : ℕ) → AreSorted (joined bs) → i < length bs → AreSorted (get_or bs i [])
  sorted_at bs i sorted h =
      sorted_left (get_or bs i []) (joined (drop (suc i) bs)) (sorted_right (joined (take i bs)) (get_or bs i [] ++ joined (drop (suc i) bs)) (sorted_around bs i sorted h))

  -- a block that begins with no more than the key; one that begins above it
  pub blocks_below : (key : List ℕ) (bs : List (List (List ℕ × V))) (i : ℕ) → AreFilled bs → AreSorted (joined bs) → i < length bs → (text_cmp (get_or (keys_of (get_or bs i [])) 0 []) key ≡ Greater → ⊥) → AreBelow key (joined (take i bs))
  blocks_below key bs i filled sorted within h = first (get_or bs i []) (filled_at bs i filled within) (sorted_around bs i sorted within) h
    where
      first : (b : List (List ℕ × V)) → 0 < length b → AreSorted (joined (take i bs) ++ (b ++ joined (drop (suc i) bs))) → (text_cmp (get_or (keys_of b) 0 []) key ≡ Greater → ⊥) → AreBelow key (joined (take i bs))
      first [] some sorted h = absurd (omega arith)
      first (e ∷ es) some sorted h = below_before key (joined (take i bs)) e (es ++ joined (drop (suc i) bs)) sorted h

  pub blocks_above : (key : List ℕ) (bs : List (List (List ℕ × V))) (i : ℕ) → AreFilled bs → AreSorted (joined bs) → i < length bs → text_cmp (get_or (keys_of (get_or bs i [])) 0 []) key ≡ Greater → AreAbove key (joined (drop i bs))
  blocks_above key bs i filled sorted within h =
      subst (AreAbove key) (sym (joined_at bs i within)) (first (get_or bs i []) (filled_at bs i filled within) (sorted_right (joined (take i bs)) (get_or bs i [] ++ joined (drop (suc i) bs)) (sorted_around bs i sorted within)) h)
    where
      first : (b : List (List ℕ × V)) → 0 < length b → AreSorted (b ++ joined (drop (suc i) bs)) → text_cmp (get_or (keys_of b) 0 []) key ≡ Greater → AreAbove key (b ++ joined (drop (suc i) bs))
      first [] some sorted h = absurd (omega arith)
      first (e ∷ es) some sorted h = above_from key (e ∷ es ++ joined (drop (suc i) bs)) 0 sorted (omega arith) (turned e.0 key h)

  -- the text with which a block begins, read off the block
  pub begins : (bs : List (List (List ℕ × V))) (i : ℕ) (b : List (List ℕ × V)) (text : List ℕ) → i < length bs → b ≡ get_or bs i b → text ≡ get_or (keys_of b) 0 [] → text ≡ get_or (keys_of (get_or bs i [])) 0 []
  begins bs i b text within is reads = reads ∙ ap (λ c. get_or (keys_of c) 0 []) (is ∙ get_or_default bs i b [] within)

  pub sorted_block : (bs : List (List (List ℕ × V))) (i : ℕ) (b : List (List ℕ × V)) → AreSorted (joined bs) → i < length bs → b ≡ get_or bs i b → AreSorted b
  sorted_block bs i b sorted within is = subst AreSorted (sym (is ∙ get_or_default bs i b [] within)) (sorted_at bs i sorted within)
