-- Where a text is, or would be put in, and a text that was put in where it was not there.
use Rattle.std.proofs.Common.{◌≡◌, ℕ, zero, suc, ◌<◌, List, [], ◌∷◌, ◌++◌, length, take, drop, get_or, set, refl, ap, sym, subst, ◌∙◌, arith, eqb}
use Rattle.std.specs.Prelude.{slice_index_or, Option, Some, None, cond, Result, Ok, Err, IfOk, OnOk, OnErr, true}
use Rattle.std.specs.Option.{unwrap_or}
use Rattle.std.specs.List.{AllByRecursion}
use Rattle.std.specs.Map.{lookup, set_value, keys_of}
use Rattle.std.specs.BTreeMap.{insert_entry}
use Rattle.std.specs.Ordering.{match_ordering, is_eq}
use Rattle.std.specs.declared.cmp.Ordering.{Ordering}
use Rattle.std.specs.declared.cmp.Ordering.TheVariants.{Less, Equal, Greater}
use Rattle.std.proofs.lemmas.List.{get_or_default, nil_from_length}
use Rattle.std.proofs.lemmas.Map.Keys.{sorted_head, sorted_tail}
use Rattle.shelf.specs.Texts.{text_cmp, is_text}
use Rattle.shelf.specs.inside.Places.{AreSorted, AreAbove, AreFilled, IsAt, IsBetween, IsBlockOf, IsFound, joined}
use Rattle.shelf.specs.inside.Walks.{IsShelf}
use Rattle.shelf.specs.inside.Written.{with_value, entries_put}
use Rattle.shelf.proofs.Order.{head_at, text_itself, right_all, sorted_right, sorted_at, joined_at, joined_split, blocks_below}
use Rattle.shelf.proofs.Looking.{missing}
use Rattle.shelf.proofs.Writing.{set_entries, found_there, some_value}
use Rattle.shelf.proofs.Shelves.{no_length}
use Rattle.shelf.proofs.Parting.{ok_then}
use Rattle.shelf.proofs.Entering.{entered, entered_shelf, replaced}

-- the key is no text, and its place in a block is this
abbrev pub IsMissing : {V : Type 0} → List ℕ → ℕ → ℕ → List (List (List ℕ × V)) → Type 0
IsMissing key at i bs = IsBlockOf key at bs × IsBetween key i (slice_index_or bs at [])

-- the key is put among the entries with a value, or it was one of them
abbrev pub HasEntered : {V : Type 0} → List ℕ → V → List (List ℕ × V) → List (List ℕ × V) → Type 0
HasEntered {V} key v old new =
    ((w : V) → set_value (is_text key) new w ≡ insert_entry text_cmp old key w)
    × (lookup (is_text key) new ≡ Some (unwrap_or (lookup (is_text key) old) v))

module _ {V : Type 0} where
  -- a block is what is read there, whatever stands for none
  pub itself : (bs : List (List (List ℕ × V))) (at : ℕ) → at < length bs → get_or bs at [] ≡ get_or bs at (get_or bs at [])
  itself bs at within = sym (get_or_default bs at (get_or bs at []) [] within)

  pub within_blocks : (bs : List (List (List ℕ × V))) (at i : ℕ) → i < length (get_or bs at []) → at < length bs
  within_blocks [] at i h = absurd (omega arith)
  within_blocks (b ∷ bs) zero i h = omega arith
  within_blocks (b ∷ bs) (suc at) i h = let rest = within_blocks bs at i h in omega (arith, rest)

  -- a text among those of a block is no more than the later ones, and no less than the first
  first_least : (key : List ℕ) (es : List (List ℕ × V)) (i : ℕ) → AreSorted es → i < length es → get_or (keys_of es) i [] ≡ key → text_cmp (get_or (keys_of es) 0 []) key ≡ Greater → ⊥
  first_least key [] i sorted within same is = absurd (omega arith)
  first_least key (e ∷ es) zero sorted within same is = let both : Equal ≡ Greater = sym (text_itself key) ∙ ap (λ k. text_cmp k key) (sym same) ∙ is in cc
  first_least key (e ∷ es) (suc i) sorted within same is =
      let both : Less ≡ Greater = sym (subst (λ k. text_cmp e.0 k ≡ Less) same (head_at es e.0 i (sorted_head text_cmp e.0 (keys_of es) sorted) (omega arith))) ∙ is in cc

  pub keys_above : (key : List ℕ) (es : List (List ℕ × V)) → AllByRecursion (λ k. text_cmp key k ≡ Less) (keys_of es) → AreAbove key es
  keys_above key [] h = tt
  keys_above key (e ∷ es) h = (h.0, keys_above key es h.1)

  above_after : (key : List ℕ) (es ys : List (List ℕ × V)) (i : ℕ) → AreSorted (es ++ ys) → i < length es → get_or (keys_of es) i [] ≡ key → AreAbove key ys
  above_after key [] ys i sorted within same = absurd (omega arith)
  above_after key (e ∷ es) ys zero sorted within same =
      subst (λ k. AreAbove k ys) same (keys_above e.0 ys (right_all (λ k. text_cmp e.0 k ≡ Less) es ys (sorted_head text_cmp e.0 (keys_of (es ++ ys)) sorted)))
  above_after key (e ∷ es) ys (suc i) sorted within same = above_after key es ys i (sorted_tail text_cmp e.0 (keys_of (es ++ ys)) sorted) (omega arith) same

  -- a text that stands in a block is found there
  pub found_at : (key : List ℕ) (at i : ℕ) (bs : List (List (List ℕ × V))) → IsShelf bs → IsAt key i (get_or bs at []) → IsFound key at i bs
  found_at key at i bs shelf there = record {
    block = record {
      within = within;
      below = blocks_below key bs at shelf.filled shelf.sorted within (first_least key (get_or bs at []) i (sorted_at bs at shelf.sorted within) there.within there.same);
      above = above_after key (get_or bs at []) (joined (drop (suc at) bs)) i
          (subst AreSorted (joined_at bs at within) (sorted_right (joined (take at bs)) (joined (drop at bs)) (subst AreSorted (sym (joined_split bs at)) shelf.sorted)))
          there.within there.same;
    };
    there = there;
  }
    where
      within : at < length bs
      within = within_blocks bs at i there.within

module _ {V : Type 0} (key : List ℕ) where
  set_put : (es : List (List ℕ × V)) (v w : V) → set_value (is_text key) (insert_entry text_cmp es key v) w ≡ insert_entry text_cmp es key w
  set_put [] v w = ap (λ o. cond (is_eq o) ((key, w) ∷ []) ((key, v) ∷ [])) (text_itself key)
  set_put (e ∷ es) v w = by_order (text_cmp key e.0) refl (set_put es v w)
    where
      by_order : (o : Ordering) → text_cmp key e.0 ≡ o → set_value (is_text key) (insert_entry text_cmp es key v) w ≡ insert_entry text_cmp es key w
          → set_value (is_text key) (match_ordering o ((key, v) ∷ e ∷ es) ((e.0, v) ∷ es) (e ∷ insert_entry text_cmp es key v)) w ≡ match_ordering o ((key, w) ∷ e ∷ es) ((e.0, w) ∷ es) (e ∷ insert_entry text_cmp es key w)
      by_order Less is rest = ap (λ o. cond (is_eq o) ((key, w) ∷ e ∷ es) ((key, v) ∷ set_value (is_text key) (e ∷ es) w)) (text_itself key)
      by_order Equal is rest = ap (λ o. cond (is_eq o) ((e.0, w) ∷ es) ((e.0, v) ∷ set_value (is_text key) es w)) is
      by_order Greater is rest =
          ap (λ o. cond (is_eq o) ((e.0, w) ∷ insert_entry text_cmp es key v) (e ∷ set_value (is_text key) (insert_entry text_cmp es key v) w)) is ∙ ap (λ fs. e ∷ fs) rest

  value_put : (es : List (List ℕ × V)) (v : V) → lookup (is_text key) (insert_entry text_cmp es key v) ≡ Some v
  value_put [] v = ap (λ o. cond (is_eq o) (Some v) None) (text_itself key)
  value_put (e ∷ es) v = by_order (text_cmp key e.0) refl (value_put es v)
    where
      by_order : (o : Ordering) → text_cmp key e.0 ≡ o → lookup (is_text key) (insert_entry text_cmp es key v) ≡ Some v
          → lookup (is_text key) (match_ordering o ((key, v) ∷ e ∷ es) ((e.0, v) ∷ es) (e ∷ insert_entry text_cmp es key v)) ≡ Some v
      by_order Less is rest = ap (λ o. cond (is_eq o) (Some v) (lookup (is_text key) (e ∷ es))) (text_itself key)
      by_order Equal is rest = ap (λ o. cond (is_eq o) (Some v) (lookup (is_text key) es)) is
      by_order Greater is rest = ap (λ o. cond (is_eq o) (Some e.1) (lookup (is_text key) (insert_entry text_cmp es key v))) is ∙ rest

  -- the text was not there
  pub has_put : (old new : List (List ℕ × V)) (v : V) → None ≡ lookup (is_text key) old → new ≡ insert_entry text_cmp old key v → HasEntered key v old new
  has_put old new v none is = (
    (λ w. ap (λ es. set_value (is_text key) es w) is ∙ set_put old v w),
    (ap (lookup (is_text key)) is ∙ value_put old v ∙ ap (λ o. Some (unwrap_or o v)) none),
  )

  -- there was none
  pub has_first : (bs now : List (List (List ℕ × V))) (b : List (List ℕ × V)) (v : V) (n : ℕ) → eqb n 0 ≡ true → n ≡ length bs → b ≡ (key, v) ∷ [] → now ≡ bs ++ b ∷ [] → HasEntered key v (joined bs) (joined now)
  has_first bs now b v n none len one is =
      has_put (joined bs) (joined now) v (ap (λ cs. lookup (is_text key) (joined cs)) (sym nil))
      (ap joined (is ∙ ap (λ cs. cs ++ b ∷ []) nil ∙ ap (λ c. c ∷ []) one) ∙ ap (λ cs. insert_entry text_cmp (joined cs) key v) (sym nil))
    where
      nil : bs ≡ []
      nil = nil_from_length bs (no_length n (length bs) none len)

  some_same : (o : Option V) (v : V) → (o ≡ None → ⊥) → o ≡ Some (unwrap_or o v)
  some_same None v h = absurd (h refl)
  some_same (Some x) v h = refl

  -- the text is there
  module _ (at i : ℕ) (bs : List (List (List ℕ × V))) (shelf : IsShelf bs) (found : IsFound key at i bs) where
    -- its value written
    pub written_there : (b : List (List ℕ × V)) → b ≡ get_or bs at b → (v : V) (c : List (List ℕ × V)) → c ≡ with_value b i v → joined (set bs at c) ≡ insert_entry text_cmp (joined bs) key v
    written_there b reads v c same =
        replaced key at i bs shelf found.block b reads (subst (IsAt key i) (sym (reads ∙ get_or_default bs at b [] found.block.within)) found.there) v c same

    pub has_found : (v : V) → HasEntered key v (joined bs) (joined bs)
    has_found v = (
      (λ w.
          let b = get_or bs at [] in
          let reads = itself bs at found.block.within in
          sym (set_entries key at i bs shelf found b reads w (with_value b i w) refl) ∙ written_there b reads w (with_value b i w) refl),
      (some_same (lookup (is_text key) (joined bs)) v (λ none. some_value (get_or bs at []) i found.there.within (found_there key at i bs shelf found (get_or bs at []) (itself bs at found.block.within) ∙ none))),
    )

  -- the text is not there, and where it is put in
  module _ (at i : ℕ) (bs : List (List (List ℕ × V))) (is : IsMissing key at i bs) where
    pub none_there : None ≡ lookup (is_text key) (joined bs)
    none_there = missing key at bs is.0 (get_or bs at []) (itself bs at is.0.within) i is.1

    pub put_there : (v : V) → entries_put bs at i (key, v) ≡ insert_entry text_cmp (joined bs) key v
    put_there v = entered key at i bs is.0 (get_or bs at []) (itself bs at is.0.within) is.1 v

    pub entered_there : (v : V) → AreSorted (joined bs) → (now : List (List (List ℕ × V))) → AreFilled now → joined now ≡ entries_put bs at i (key, v) → IsShelf now
    entered_there v sorted now filled same = entered_shelf key at i bs is.0 (get_or bs at []) (itself bs at is.0.within) is.1 v sorted now filled same

    pub put_shelf : {T E : Type 0} (r : Result T E) (v : V) → AreSorted (joined bs) → (now : List (List (List ℕ × V))) → AreFilled now
        → OnOk r (joined now ≡ entries_put bs at i (key, v)) → OnErr r (joined now ≡ joined bs) → IsShelf now
    put_shelf (Ok x) v sorted now filled ok err = entered_there v sorted now filled ok
    put_shelf (Err e) v sorted now filled ok err = record { filled = filled; sorted = subst AreSorted (sym err) sorted }

    pub has_entered : {T E : Type 0} (r : Result T E) (v : V) (now : List (List (List ℕ × V))) → OnOk r (joined now ≡ entries_put bs at i (key, v)) → OnOk r (HasEntered key v (joined bs) (joined now))
    has_entered r v now ok = ok_then r ok (λ same. has_put (joined bs) (joined now) v none_there (same ∙ put_there v))

  pub put_found : {E : Type 0} (r : Result (ℕ × ℕ) E) (now : List (List (List ℕ × V))) → IsShelf now → IfOk r (λ p. IsAt key p.1 (get_or now p.0 [])) → IfOk r (λ p. IsFound key p.0 p.1 now)
  put_found (Ok p) now shelf there = found_at key p.0 p.1 now shelf there
  put_found (Err e) now shelf there = tt
