-- A text taken out from among others, which stand one after another.
use Rattle.std.proofs.Common.{◌≡◌, ℕ, zero, suc, ◌+◌, ◌-◌, ◌<◌, ◌≤◌, List, [], ◌∷◌, ◌++◌, length, take, drop, get_or, map, refl, ap, sym, subst, ◌∙◌, arith, append_assoc, length-append}
use Rattle.std.specs.Prelude.{All}
use Rattle.std.specs.List.{AllByRecursion, concat, zip, remove, remove_range}
use Rattle.std.proofs.lemmas.List.{take_at, drop_at}
use Rattle.shelf.specs.inside.Ends.{without_end}
use Rattle.shelf.specs.inside.Blocks.{cuts, ends_of, entries, IsShort, IsBlock}
use Rattle.shelf.proofs.Cuts.{around, front_length}
use Rattle.shelf.proofs.Inserting.{concat-append, take_ends, drop_ends, ends_of-append, made, made_cuts, count, start_is}
use Rattle.shelf.proofs.Splitting.{lowered, rising}

short_out : (ks : List (List ℕ)) (i : ℕ) → AllByRecursion IsShort ks → AllByRecursion IsShort (remove ks i)
short_out [] zero s = s
short_out [] (suc i) s = s
short_out (k ∷ ks) zero s = s.1
short_out (k ∷ ks) (suc i) s = (s.0, short_out ks i s.1)

zip_out : {V : Type 0} (ks : List (List ℕ)) (vs : List V) (i : ℕ) → length ks ≡ length vs → zip (remove ks i) (remove vs i) ≡ remove (zip ks vs) i
zip_out [] [] zero h = refl
zip_out [] [] (suc i) h = refl
zip_out [] (v ∷ vs) i h = absurd (omega (arith, h))
zip_out (k ∷ ks) [] i h = absurd (omega (arith, h))
zip_out (k ∷ ks) (v ∷ vs) zero h = refl
zip_out (k ∷ ks) (v ∷ vs) (suc i) h = ap (λ es. (k, v) ∷ es) (zip_out ks vs i (omega (arith, h)))

pub length_out : {X : Type 0} (xs : List X) (i : ℕ) → i < length xs → length (remove xs i) + 1 ≡ length xs
length_out [] i h = absurd (omega arith)
length_out (x ∷ xs) zero h = omega arith
length_out (x ∷ xs) (suc i) h = let rest = length_out xs i (omega arith) in omega (arith, rest)

all_less : (a b : ℕ) (es : List ℕ) → b ≤ a → All (λ end. a ≤ end) es → All (λ end. b ≤ end) es
all_less a b es h all = λ k d l. omega (arith, all k d l)

module _ {V : Type 0} (texts ends : List ℕ) (values : List V) (is : IsBlock texts ends (length values)) (i : ℕ) (within : i < length values) where
  long : length (cuts 0 texts ends) ≡ length values
  long = count texts ends values is i (omega arith)

  inside : i < length (cuts 0 texts ends)
  inside = omega (arith, long)

  starts : get_or (0 ∷ ends) i 0 ≡ length (concat (take i (cuts 0 texts ends)))
  starts = start_is texts ends values is i (omega arith)

  stops : get_or (0 ∷ ends) (suc i) 0 ≡ length (concat (take (suc i) (cuts 0 texts ends)))
  stops = start_is texts ends values is (suc i) (omega arith)

  -- how long the text is
  by_is : (start end : ℕ) → start ≡ get_or (0 ∷ ends) i 0 → end ≡ get_or (0 ∷ ends) (suc i) 0 → end ≡ start + length (get_or (cuts 0 texts ends) i [])
  by_is start end s e = e ∙ stops ∙ front_length (cuts 0 texts ends) i inside ∙ ap (λ n. n + length (get_or (cuts 0 texts ends) i [])) (sym (s ∙ starts))

  -- none of the later ends is below its length
  pub later : (ends_now : List ℕ) → ends_now ≡ ends → (start end : ℕ) → end ≡ get_or (0 ∷ ends) (suc i) 0 → All (λ stop. end - start ≤ stop) (drop (i + 1) ends_now)
  later ends_now same start end e =
      let next : i + 1 ≡ suc i = omega arith in
      rw next (all_less end (end - start) (drop (suc i) ends_now) (omega arith)
      (subst (λ n. All (λ stop. n ≤ stop) (drop (suc i) ends_now)) (ap (λ es. get_or (0 ∷ es) (suc i) 0) same ∙ sym e) (rising texts ends values is (suc i) (omega arith) ends_now same)))

  module _ (start end : ℕ) (s : start ≡ get_or (0 ∷ ends) i 0) (e : end ≡ get_or (0 ∷ ends) (suc i) 0) (text ends_now : List ℕ) (vs : List V)
      (text_is : text ≡ remove_range texts start end) (ends_are : ends_now ≡ without_end ends i (end - start)) (vs_are : vs ≡ remove values i) where
    abbrev ks : List (List ℕ)
    ks = cuts 0 texts ends

    abbrev before : List ℕ
    before = concat (take i (cuts 0 texts ends))

    abbrev key : List ℕ
    key = get_or (cuts 0 texts ends) i []

    abbrev after : List ℕ
    after = concat (drop (suc i) (cuts 0 texts ends))

    parts : texts ≡ before ++ (key ++ after)
    parts = sym is.joined ∙ sym (around (cuts 0 texts ends) i inside)

    text_out : text ≡ concat (remove ks i)
    text_out =
        text_is
        ∙ ap (λ t. take start t ++ drop end t) parts
        ∙ ap (λ t. t ++ drop end (before ++ (key ++ after))) (take_at before (key ++ after) start (sym (s ∙ starts)))
        ∙ ap (λ t. before ++ t) (ap (drop end) (sym (append_assoc before key after)) ∙ drop_at (before ++ key) after end (length-append before key ∙ sym (by_is start end s e ∙ ap (λ n. n + length key) (s ∙ starts))))
        ∙ sym (concat-append (take i ks) (drop (suc i) ks))

    length_key : end - start ≡ length key
    length_key = let n = by_is start end s e in omega (arith, n)

    ends_out : ends_now ≡ ends_of 0 (remove ks i)
    ends_out =
        ends_are
        ∙ ap (λ es. take i es ++ map (λ stop. stop - (end - start)) (drop (suc i) es)) (sym is.ended)
        ∙ ap (λ es. es ++ map (λ stop. stop - (end - start)) (drop (suc i) (ends_of 0 ks))) (take_ends 0 ks i)
        ∙ ap (λ es. ends_of 0 (take i ks) ++ map (λ stop. stop - (end - start)) es) (drop_ends 0 ks (suc i))
        ∙ ap (λ n. ends_of 0 (take i ks) ++ map (λ stop. stop - n) (ends_of (0 + length (concat (take (suc i) ks))) (drop (suc i) ks))) length_key
        ∙ ap (λ n. ends_of 0 (take i ks) ++ map (λ stop. stop - length key) (ends_of n (drop (suc i) ks)))
        (let n = front_length ks i inside in let m : 0 + length (concat (take (suc i) ks)) ≡ (0 + length before) + length key = omega (arith, n) in m)
        ∙ ap (λ es. ends_of 0 (take i ks) ++ es) (lowered (0 + length before) (length key) (drop (suc i) ks))
        ∙ sym (ends_of-append 0 (take i ks) (drop (suc i) ks))

    count_out : length (remove ks i) ≡ length vs
    count_out = let n = length_out ks i inside in let m = length_out values i within in let l = ap length vs_are in omega (arith, n, m, l, long)

    pub out_block : IsBlock text ends_now (length vs)
    out_block = made text ends_now (length vs) (remove ks i) text_out ends_out count_out (let m = length_out values i within in let l = ap length vs_are in omega (arith, m, l, is.few)) (short_out ks i is.short)

    pub out_entries : (es : List (List ℕ × V)) → entries texts ends values ≡ es → entries text ends_now vs ≡ remove es i
    out_entries es view =
        ap (λ ls. zip ls vs) (made_cuts text ends_now (remove ks i) text_out ends_out)
        ∙ ap (λ ws. zip (remove ks i) ws) vs_are
        ∙ zip_out ks values i long
        ∙ ap (λ fs. remove fs i) view
