-- An entry put in among blocks, one of which may be parted.
use Rattle.std.proofs.Common.{◌≡◌, ℕ, zero, suc, ◌+◌, ◌-◌, ◌<◌, ◌≤◌, List, [], ◌∷◌, ◌++◌, length, take, drop, get_or, set, refl, ap, sym, subst, ◌∙◌, arith, append_assoc, length-append}
use Rattle.std.specs.Prelude.{Result, Ok, Err, OnOk, OnErr}
use Rattle.std.specs.List.{insert}
use Rattle.std.proofs.lemmas.List.{take-append-drop, length-take-le, length-drop, get_or_at, set_at, get_or-append-add, set-append_right, set_split, get_or_default}
use Rattle.std.proofs.lemmas.List.Concat.{flat_map-append}
use Rattle.std.proofs.lemmas.List.Edits.{insert-append_left, insert-append_right}
use Rattle.shelf.specs.inside.Places.{AreFilled, joined}
use Rattle.shelf.specs.inside.Written.{entries_put, parted}
use Rattle.shelf.proofs.Looking.{joined_around}
use Rattle.shelf.proofs.Walking.{filled_from}
use Rattle.shelf.proofs.Writing.{joined_set}

pub ok_then : {T E P Q : Type 0} (r : Result T E) → OnOk r P → (P → Q) → OnOk r Q
ok_then (Ok x) p f = f p
ok_then (Err e) p f = tt

pub err_then : {T E P Q : Type 0} (r : Result T E) → OnErr r P → (P → Q) → OnErr r Q
err_then (Ok x) p f = tt
err_then (Err e) p f = f p

pub by_result : {T E X : Type 0} (r : Result T E) (P : X → Type 0) (now x y : X) → OnOk r (now ≡ x) → OnErr r (now ≡ y) → P x → P y → P now
by_result (Ok v) P now x y ok err p q = subst P (sym ok) p
by_result (Err e) P now x y ok err p q = subst P (sym err) q

module _ {V : Type 0} where
  some_put : (xs : List (List ℕ × V)) (i : ℕ) (e : List ℕ × V) → 0 < length (insert xs i e)
  some_put xs i e = omega (arith, length-append (take i xs) (e ∷ drop i xs))

  filled_append : (xs ys : List (List (List ℕ × V))) → AreFilled xs → AreFilled ys → AreFilled (xs ++ ys)
  filled_append [] ys h k = k
  filled_append (x ∷ xs) ys h k = (h.0, filled_append xs ys h.1 k)

  filled_take : (bs : List (List (List ℕ × V))) (i : ℕ) → AreFilled bs → AreFilled (take i bs)
  filled_take bs zero filled = tt
  filled_take [] (suc i) filled = tt
  filled_take (b ∷ bs) (suc i) filled = (filled.0, filled_take bs i filled.1)

  pub put_joined : (bs : List (List (List ℕ × V))) (at i : ℕ) (e : List ℕ × V) → at < length bs → joined (set bs at (insert (get_or bs at []) i e)) ≡ entries_put bs at i e
  put_joined bs at i e within = joined_set bs at (insert (get_or bs at []) i e) within

  -- two neighbours among others
  module _ (p : List (List (List ℕ × V))) (l r : List (List ℕ × V)) (d : List (List (List ℕ × V))) where
    first : get_or (p ++ (l ∷ r ∷ d)) (length p) [] ≡ l
    first = get_or_at p l (r ∷ d) [] (length p) refl

    second : get_or (p ++ (l ∷ r ∷ d)) (length p + 1) [] ≡ r
    second = get_or-append-add p (l ∷ r ∷ d) 1 []

    set_first : (x : List (List ℕ × V)) → set (p ++ (l ∷ r ∷ d)) (length p) x ≡ p ++ (x ∷ r ∷ d)
    set_first x = set_at p l (r ∷ d) x (length p) refl

    set_second : (x : List (List ℕ × V)) → set (p ++ (l ∷ r ∷ d)) (length p + 1) x ≡ p ++ (l ∷ x ∷ d)
    set_second x =
        let n : length p + 1 - length p ≡ 1 = omega arith in
        set-append_right p (l ∷ r ∷ d) (length p) (length p + 1) x refl (omega arith) ∙ ap (λ k. p ++ set (l ∷ r ∷ d) k x) n

    two : joined (p ++ (l ∷ r ∷ d)) ≡ joined p ++ ((l ++ r) ++ joined d)
    two = flat_map-append (λ b. b) p (l ∷ r ∷ d) ∙ ap (λ es. joined p ++ es) (sym (append_assoc l r (joined d)))

    two_filled : AreFilled p → AreFilled d → 0 < length l → 0 < length r → AreFilled (p ++ (l ∷ r ∷ d))
    two_filled a b x y = filled_append p (l ∷ r ∷ d) a (x, (y, b))

  module _ (bs : List (List (List ℕ × V))) (at : ℕ) (within : at < length bs) (cut : ℕ) where
    parted_is : parted bs at cut ≡ take at bs ++ (take cut (get_or bs at []) ∷ drop cut (get_or bs at []) ∷ drop (suc at) bs)
    parted_is =
        ap (λ cs. insert cs (at + 1) (drop cut (get_or bs at []))) (set_split bs at (take cut (get_or bs at [])) within)
        ∙ ap (λ n. insert (take at bs ++ (take cut (get_or bs at []) ∷ drop (suc at) bs)) (n + 1) (drop cut (get_or bs at []))) (sym (length-take-le at bs (omega arith)))
        ∙ after (take at bs) (take cut (get_or bs at [])) (drop (suc at) bs) (drop cut (get_or bs at []))
      where
        after : (p : List (List (List ℕ × V))) (l : List (List ℕ × V)) (d : List (List (List ℕ × V))) (r : List (List ℕ × V)) → insert (p ++ (l ∷ d)) (length p + 1) r ≡ p ++ (l ∷ r ∷ d)
        after p l d r =
            let n : length p + 1 - length p ≡ 1 = omega arith in
            insert-append_right p (l ∷ d) (length p) (length p + 1) r refl (omega arith) ∙ ap (λ k. p ++ insert (l ∷ d) k r) n

    long : length (take at bs) ≡ at
    long = length-take-le at bs (omega arith)

    pub parted_joined : joined (parted bs at cut) ≡ joined bs
    parted_joined =
        ap joined parted_is ∙ two (take at bs) (take cut (get_or bs at [])) (drop cut (get_or bs at [])) (drop (suc at) bs)
        ∙ ap (λ es. joined (take at bs) ++ (es ++ joined (drop (suc at) bs))) (take-append-drop cut (get_or bs at []))
        ∙ sym (joined_around bs at within)

    left_is : (i : ℕ) (e : List ℕ × V) → set (parted bs at cut) at (insert (get_or (parted bs at cut) at []) i e) ≡ take at bs ++ (insert (take cut (get_or bs at [])) i e ∷ drop cut (get_or bs at []) ∷ drop (suc at) bs)
    left_is i e =
        ap (λ cs. set cs at (insert (get_or cs at []) i e)) parted_is
        ∙ ap (λ n. set (take at bs ++ (take cut (get_or bs at []) ∷ drop cut (get_or bs at []) ∷ drop (suc at) bs)) n (insert (get_or (take at bs ++ (take cut (get_or bs at []) ∷ drop cut (get_or bs at []) ∷ drop (suc at) bs)) n []) i e)) (sym long)
        ∙ set_first (take at bs) _ _ (drop (suc at) bs) _ ∙ ap (λ b. take at bs ++ (insert b i e ∷ drop cut (get_or bs at []) ∷ drop (suc at) bs)) (first (take at bs) (take cut (get_or bs at [])) (drop cut (get_or bs at [])) (drop (suc at) bs))

    right_is : (i : ℕ) (e : List ℕ × V) → set (parted bs at cut) (at + 1) (insert (get_or (parted bs at cut) (at + 1) []) i e) ≡ take at bs ++ (take cut (get_or bs at []) ∷ insert (drop cut (get_or bs at [])) i e ∷ drop (suc at) bs)
    right_is i e =
        ap (λ cs. set cs (at + 1) (insert (get_or cs (at + 1) []) i e)) parted_is
        ∙ ap (λ n. set (take at bs ++ (take cut (get_or bs at []) ∷ drop cut (get_or bs at []) ∷ drop (suc at) bs)) (n + 1) (insert (get_or (take at bs ++ (take cut (get_or bs at []) ∷ drop cut (get_or bs at []) ∷ drop (suc at) bs)) (n + 1) []) i e)) (sym long)
        ∙ set_second (take at bs) _ _ (drop (suc at) bs) _ ∙ ap (λ b. take at bs ++ (take cut (get_or bs at []) ∷ insert b i e ∷ drop (suc at) bs)) (second (take at bs) (take cut (get_or bs at [])) (drop cut (get_or bs at [])) (drop (suc at) bs))

    pub left_joined : (i : ℕ) (e : List ℕ × V) → i ≤ cut → cut ≤ length (get_or bs at []) → joined (set (parted bs at cut) at (insert (get_or (parted bs at cut) at []) i e)) ≡ entries_put bs at i e
    left_joined i e before less =
        ap joined (left_is i e) ∙ two (take at bs) (insert (take cut (get_or bs at [])) i e) (drop cut (get_or bs at [])) (drop (suc at) bs)
        ∙ ap (λ es. joined (take at bs) ++ (es ++ joined (drop (suc at) bs)))
        (sym (insert-append_left (take cut (get_or bs at [])) (drop cut (get_or bs at [])) i e (omega (arith, length-take-le cut (get_or bs at []) less)))
        ∙ ap (λ b. insert b i e) (take-append-drop cut (get_or bs at [])))

    pub right_joined : (i : ℕ) (e : List ℕ × V) → cut ≤ i → cut ≤ length (get_or bs at []) → joined (set (parted bs at cut) (at + 1) (insert (get_or (parted bs at cut) (at + 1) []) (i - cut) e)) ≡ entries_put bs at i e
    right_joined i e after less =
        ap joined (right_is (i - cut) e) ∙ two (take at bs) (take cut (get_or bs at [])) (insert (drop cut (get_or bs at [])) (i - cut) e) (drop (suc at) bs)
        ∙ ap (λ es. joined (take at bs) ++ (es ++ joined (drop (suc at) bs)))
        (sym (insert-append_right (take cut (get_or bs at [])) (drop cut (get_or bs at [])) cut i e (length-take-le cut (get_or bs at []) less) after)
        ∙ ap (λ b. insert b i e) (take-append-drop cut (get_or bs at [])))

    module _ (some : 0 < cut) (less : cut < length (get_or bs at [])) (filled : AreFilled bs) where
      left_some : 0 < length (take cut (get_or bs at []))
      left_some = omega (arith, length-take-le cut (get_or bs at []) (omega arith))

      right_some : 0 < length (drop cut (get_or bs at []))
      right_some = omega (arith, length-drop cut (get_or bs at []))

      pub parted_filled : AreFilled (parted bs at cut)
      parted_filled = subst AreFilled (sym parted_is) (two_filled (take at bs) _ _ (drop (suc at) bs) (filled_take bs at filled) (filled_from bs (suc at) filled) left_some right_some)

      pub left_filled : (i : ℕ) (e : List ℕ × V) → AreFilled (set (parted bs at cut) at (insert (get_or (parted bs at cut) at []) i e))
      left_filled i e =
          subst AreFilled (sym (left_is i e)) (two_filled (take at bs) _ _ (drop (suc at) bs) (filled_take bs at filled) (filled_from bs (suc at) filled) (some_put (take cut (get_or bs at [])) i e) right_some)

      pub right_filled : (i : ℕ) (e : List ℕ × V) → AreFilled (set (parted bs at cut) (at + 1) (insert (get_or (parted bs at cut) (at + 1) []) i e))
      right_filled i e =
          subst AreFilled (sym (right_is i e)) (two_filled (take at bs) _ _ (drop (suc at) bs) (filled_take bs at filled) (filled_from bs (suc at) filled) left_some (some_put (drop cut (get_or bs at [])) i e))

  -- a block that is full is longer than where it is parted
  pub longer : (bs : List (List (List ℕ × V))) (at n cut : ℕ) (b : List (List ℕ × V)) → at < length bs → b ≡ get_or bs at b → n ≡ length b → 128 ≤ n → cut < 128 → cut < length (get_or bs at [])
  longer bs at n cut b within reads len full less = omega (arith, ap length (reads ∙ get_or_default bs at b [] within))

  -- what stands after one of the parts was given an entry
  module _ {T E : Type 0} (bs : List (List (List ℕ × V))) (at : ℕ) (within : at < length bs) (cut : ℕ) (some : 0 < cut) (less : cut < length (get_or bs at [])) (filled : AreFilled bs)
      (mid : List (List (List ℕ × V))) (is : mid ≡ parted bs at cut) (i : ℕ) (e : List ℕ × V) (r : Result T E) (now : List (List (List ℕ × V))) where
    pub now_err : OnErr r (now ≡ mid) → OnErr r (joined now ≡ joined bs)
    now_err err = err_then r err (λ same. ap joined (same ∙ is) ∙ parted_joined bs at within cut)

    module _ (ok : OnOk r (now ≡ set mid at (insert (get_or mid at []) i e))) where
      pub left_now : i ≤ cut → OnOk r (joined now ≡ entries_put bs at i e)
      left_now before =
          ok_then r ok (λ same. ap joined (same ∙ ap (λ m. set m at (insert (get_or m at []) i e)) is) ∙ left_joined bs at within cut i e before (omega arith))

      pub left_now_filled : OnErr r (now ≡ mid) → AreFilled now
      left_now_filled err =
          by_result r AreFilled now _ _ ok err
          (subst (λ m. AreFilled (set m at (insert (get_or m at []) i e))) (sym is) (left_filled bs at within cut some less filled i e))
          (subst AreFilled (sym is) (parted_filled bs at within cut some less filled))

    module _ (ok : OnOk r (now ≡ set mid (at + 1) (insert (get_or mid (at + 1) []) (i - cut) e))) where
      pub right_now : cut ≤ i → OnOk r (joined now ≡ entries_put bs at i e)
      right_now after =
          ok_then r ok (λ same. ap joined (same ∙ ap (λ m. set m (at + 1) (insert (get_or m (at + 1) []) (i - cut) e)) is) ∙ right_joined bs at within cut i e after (omega arith))

      pub right_now_filled : OnErr r (now ≡ mid) → AreFilled now
      right_now_filled err =
          by_result r AreFilled now _ _ ok err
          (subst (λ m. AreFilled (set m (at + 1) (insert (get_or m (at + 1) []) (i - cut) e))) (sym is) (right_filled bs at within cut some less filled (i - cut) e))
          (subst AreFilled (sym is) (parted_filled bs at within cut some less filled))
