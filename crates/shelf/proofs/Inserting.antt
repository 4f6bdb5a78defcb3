-- A text put in among others, which stand one after another.
use Rattle.std.proofs.Common.{◌≡◌, ℕ, zero, suc, ◌+◌, ◌*◌, ◌-◌, ◌<◌, ◌≤◌, ◌^◌, List, [], ◌∷◌, ◌++◌, length, take, drop, get_or, map, refl, ap, sym, subst, ◌∙◌, arith, append_assoc, length-append}
use Rattle.std.specs.Prelude.{All}
use Rattle.std.specs.List.{AllByRecursion, concat, zip, insert, insert_slice}
use Rattle.std.specs.Str.{IsCharBoundary}
use Rattle.std.specs.String.Boundary.{IsSplitPoint}
use Rattle.std.proofs.lemmas.Str.{IsCharBoundary-at_seam}
use Rattle.std.proofs.lemmas.List.{take_at, drop_at, take-append-drop, length-take-le, take_rest}
use Rattle.std.proofs.lemmas.List.Edits.{length-insert}
use Rattle.shelf.specs.inside.Ends.{with_end}
use Rattle.shelf.specs.inside.Blocks.{cuts, ends_of, entries, IsShort, IsBlock}
use Rattle.shelf.proofs.Cuts.{length_cuts, cuts_ends, start_at, utf8_all, short_from}

pub concat-append : (xs ys : List (List ℕ)) → concat (xs ++ ys) ≡ concat xs ++ concat ys
concat-append [] ys = refl
concat-append (x ∷ xs) ys = ap (λ t. x ++ t) (concat-append xs ys) ∙ sym (append_assoc x (concat xs) (concat ys))

pub concat_split : (ks : List (List ℕ)) (i : ℕ) → concat (take i ks) ++ concat (drop i ks) ≡ concat ks
concat_split ks i = sym (concat-append (take i ks) (drop i ks)) ∙ ap concat (take-append-drop i ks)

pub take_ends : (start : ℕ) (ks : List (List ℕ)) (i : ℕ) → take i (ends_of start ks) ≡ ends_of start (take i ks)
take_ends start ks zero = refl
take_ends start [] (suc i) = refl
take_ends start (k ∷ ks) (suc i) = ap (λ es. (start + length k) ∷ es) (take_ends (start + length k) ks i)

pub drop_ends : (start : ℕ) (ks : List (List ℕ)) (i : ℕ) → drop i (ends_of start ks) ≡ ends_of (start + length (concat (take i ks))) (drop i ks)
drop_ends start ks zero = ap (λ n. ends_of n ks) (let e : start ≡ start + 0 = omega arith in e)
drop_ends start [] (suc i) = refl
drop_ends start (k ∷ ks) (suc i) =
    drop_ends (start + length k) ks i ∙ ap (λ n. ends_of n (drop i ks)) (let e : start + length k + length (concat (take i ks)) ≡ start + length (k ++ concat (take i ks)) = omega (arith, length-append k (concat (take i ks))) in e)

pub ends_of-append : (start : ℕ) (xs ys : List (List ℕ)) → ends_of start (xs ++ ys) ≡ ends_of start xs ++ ends_of (start + length (concat xs)) ys
ends_of-append start [] ys = ap (λ n. ends_of n ys) (let e : start ≡ start + 0 = omega arith in e)
ends_of-append start (x ∷ xs) ys =
    ap (λ es. (start + length x) ∷ es)
    (ends_of-append (start + length x) xs ys ∙ ap (λ n. ends_of (start + length x) xs ++ ends_of n ys) (let e : start + length x + length (concat xs) ≡ start + length (x ++ concat xs) = omega (arith, length-append x (concat xs)) in e))

-- all later by so much
pub raised : (start by : ℕ) (ks : List (List ℕ)) → map (λ end. end + by) (ends_of start ks) ≡ ends_of (start + by) ks
raised start by [] = refl
raised start by (k ∷ ks) =
    let e : start + length k + by ≡ start + by + length k = omega arith in
    rw e (ap (λ es. (start + by + length k) ∷ es) (raised (start + length k) by ks ∙ ap (λ n. ends_of n ks) e))

pub length_ends : (start : ℕ) (ks : List (List ℕ)) → length (ends_of start ks) ≡ length ks
length_ends start [] = refl
length_ends start (k ∷ ks) = ap suc (length_ends (start + length k) ks)

-- how long texts are together
pub long_at_most : (ks : List (List ℕ)) → AllByRecursion IsShort ks → length (concat ks) ≤ 511 * length ks
long_at_most [] s = omega arith
long_at_most (k ∷ ks) s = omega (arith, length-append k (concat ks), long_at_most ks s.1, s.0.0)

ends_at_most : (start : ℕ) (ks : List (List ℕ)) → All (λ end. end ≤ start + length (concat ks)) (ends_of start ks)
ends_at_most start [] = λ i d h. absurd (omega arith)
ends_at_most start (k ∷ ks) = more (ends_at_most (start + length k) ks)
  where
    more : All (λ end. end ≤ start + length k + length (concat ks)) (ends_of (start + length k) ks) → (i d : ℕ) → i < length (ends_of start (k ∷ ks)) → get_or (ends_of start (k ∷ ks)) i d ≤ start + length (k ++ concat ks)
    more rest zero d h = omega (arith, length-append k (concat ks))
    more rest (suc i) d h = omega (arith, length-append k (concat ks), rest i d (omega arith))

short_put : (ks : List (List ℕ)) (i : ℕ) (key : List ℕ) → AllByRecursion IsShort ks → IsShort key → AllByRecursion IsShort (take i ks ++ key ∷ drop i ks)
short_put ks zero key s k = (k, s)
short_put [] (suc i) key s k = (k, tt)
short_put (x ∷ ks) (suc i) key s k = (s.0, short_put ks i key s.1 k)

zip_put : {V : Type 0} (ks : List (List ℕ)) (vs : List V) (i : ℕ) (k : List ℕ) (v : V) → length ks ≡ length vs → i ≤ length vs → zip (insert ks i k) (insert vs i v) ≡ insert (zip ks vs) i (k, v)
zip_put ks vs zero k v alike h = refl
zip_put [] [] (suc i) k v alike h = absurd (omega arith)
zip_put [] (w ∷ vs) (suc i) k v alike h = absurd (omega (arith, alike))
zip_put (x ∷ ks) [] (suc i) k v alike h = absurd (omega arith)
zip_put (x ∷ ks) (w ∷ vs) (suc i) k v alike h = ap (λ es. (x, w) ∷ es) (zip_put ks vs i k v (omega (arith, alike)) (omega arith))

-- a block made of texts that are short
pub made : (texts ends : List ℕ) (count : ℕ) (ks : List (List ℕ)) → texts ≡ concat ks → ends ≡ ends_of 0 ks → length ks ≡ count → count ≤ 128 → AllByRecursion IsShort ks → IsBlock texts ends count
made texts ends count ks t e n few short =
    let again : cuts 0 texts ends ≡ ks = ap (λ x. cuts 0 x ends) t ∙ ap (cuts 0 (concat ks)) e ∙ cuts_ends 0 ks in
    record {
      joined = ap concat again ∙ sym t;
      ended = ap (ends_of 0) again ∙ sym e;
      paired = ap length e ∙ length_ends 0 ks ∙ n;
      few = few;
      short = subst (AllByRecursion IsShort) (sym again) short;
    }

pub made_cuts : (texts ends : List ℕ) (ks : List (List ℕ)) → texts ≡ concat ks → ends ≡ ends_of 0 ks → cuts 0 texts ends ≡ ks
made_cuts texts ends ks t e = ap (λ x. cuts 0 x ends) t ∙ ap (cuts 0 (concat ks)) e ∙ cuts_ends 0 ks

-- from the one at a place on, with what stands before it first
pub all_from : (P : ℕ → Type 0) (x : ℕ) (es : List ℕ) (i : ℕ) → All P (x ∷ es) → i ≤ length es → All P (get_or (x ∷ es) i 0 ∷ drop i es)
all_from P x es zero all h = all
all_from P x [] (suc i) all h = absurd (omega arith)
all_from P x (e ∷ es) (suc i) all h = all_from P e es i (λ k d l. all (suc k) d (omega arith)) (omega arith)

pub rest_put : (now old : List ℕ) (i x : ℕ) → i ≤ length old → now ≡ insert old i x → take (length now - i) (drop i now) ≡ x ∷ drop i old
rest_put now old i x h is = take_rest now i ∙ ap (drop i) is ∙ drop_at (take i old) (x ∷ drop i old) i (length-take-le i old h)

module _ {V : Type 0} (texts ends : List ℕ) (values : List V) (is : IsBlock texts ends (length values)) (i : ℕ) (within : i ≤ length values) where
  pub count : length (cuts 0 texts ends) ≡ length values
  count = length_cuts 0 texts ends ∙ is.paired

  pub start_is : get_or (0 ∷ ends) i 0 ≡ length (concat (take i (cuts 0 texts ends)))
  start_is = ap (λ es. get_or (0 ∷ es) i 0) (sym is.ended) ∙ start_at 0 (cuts 0 texts ends) i (omega (arith, count)) ∙ omega arith

  -- a text starts or would start where the texts may be cut
  pub cut_point : (text stops : List ℕ) (start : ℕ) → text ≡ texts → stops ≡ ends → start ≡ get_or (0 ∷ stops) i 0 → IsSplitPoint text start
  cut_point text stops start t e s = (cut.0, λ _. cut.1)
    where
      at : IsCharBoundary texts (length (concat (take i (cuts 0 texts ends))))
      at = IsCharBoundary-at_seam texts (concat (take i (cuts 0 texts ends))) (concat (drop i (cuts 0 texts ends))) (sym is.joined ∙ sym (concat_split (cuts 0 texts ends) i)) (utf8_all (drop i (cuts 0 texts ends)) (short_from (cuts 0 texts ends) i is.short))

      cut : IsCharBoundary text start
      cut = subst (λ x. IsCharBoundary x start) (sym t) (subst (IsCharBoundary texts) (sym (s ∙ ap (λ es. get_or (0 ∷ es) i 0) e ∙ start_is)) at)

  -- there is room for one more
  pub fits : (by : ℕ) → length values < 128 → by ≤ 511 → All (λ end. end + by < 2 ^ 16) (0 ∷ ends)
  fits by few short = subst (λ es. All (λ end. end + by < 2 ^ 16) (0 ∷ es)) is.ended first
    where
      first : All (λ end. end + by < 2 ^ 16) (0 ∷ ends_of 0 (cuts 0 texts ends))
      first zero d h = omega arith
      first (suc k) d h = omega (arith, ends_at_most 0 (cuts 0 texts ends) k d (omega arith), long_at_most (cuts 0 texts ends) is.short, count)

  module _ (key : List ℕ) (short : IsShort key) (v : V) (text stops : List ℕ) (vs : List V)
      (text_is : text ≡ insert_slice texts (get_or (0 ∷ ends) i 0) key) (stops_are : stops ≡ with_end ends i (length key)) (vs_are : vs ≡ insert values i v) where
    -- the text is what the texts are with the key among them
    text_put : text ≡ concat (insert (cuts 0 texts ends) i key)
    text_put =
        text_is
        ∙ slice_put texts (concat (take i (cuts 0 texts ends))) (concat (drop i (cuts 0 texts ends))) (sym is.joined ∙ sym (concat_split (cuts 0 texts ends) i)) _ start_is
        ∙ append_assoc (concat (take i (cuts 0 texts ends))) key (concat (drop i (cuts 0 texts ends))) ∙ sym (concat-append (take i (cuts 0 texts ends)) (key ∷ drop i (cuts 0 texts ends)))
      where
        slice_put : (t p q : List ℕ) → t ≡ p ++ q → (n : ℕ) → n ≡ length p → insert_slice t n key ≡ (p ++ key) ++ q
        slice_put t p q e n m = ap (λ x. insert_slice x n key) e ∙ ap (λ x. insert_slice (p ++ q) x key) m ∙ ap (λ x. (x ++ key) ++ drop (length p) (p ++ q)) (take_at p q (length p) refl) ∙ ap (λ x. (p ++ key) ++ x) (drop_at p q (length p) refl)

    stops_put : stops ≡ ends_of 0 (insert (cuts 0 texts ends) i key)
    stops_put =
        stops_are
        ∙ ap (λ es. take i es ++ map (λ end. end + length key) (get_or (0 ∷ ends) i 0 ∷ drop i es)) (sym is.ended)
        ∙ ap (λ es. es ++ map (λ end. end + length key) (get_or (0 ∷ ends) i 0 ∷ drop i (ends_of 0 (cuts 0 texts ends)))) (take_ends 0 (cuts 0 texts ends) i)
        ∙ ap (λ es. ends_of 0 (take i (cuts 0 texts ends)) ++ (get_or (0 ∷ ends) i 0 + length key) ∷ map (λ end. end + length key) es) (drop_ends 0 (cuts 0 texts ends) i)
        ∙ ap (λ es. ends_of 0 (take i (cuts 0 texts ends)) ++ (get_or (0 ∷ ends) i 0 + length key) ∷ es) (raised (0 + length (concat (take i (cuts 0 texts ends)))) (length key) (drop i (cuts 0 texts ends)))
        ∙ ap (λ n. ends_of 0 (take i (cuts 0 texts ends)) ++ (n + length key) ∷ ends_of (0 + length (concat (take i (cuts 0 texts ends))) + length key) (drop i (cuts 0 texts ends))) (start_is ∙ zero_less)
        ∙ sym (ends_of-append 0 (take i (cuts 0 texts ends)) (key ∷ drop i (cuts 0 texts ends)))
      where
        zero_less : length (concat (take i (cuts 0 texts ends))) ≡ 0 + length (concat (take i (cuts 0 texts ends)))
        zero_less = omega arith

    long : length (insert (cuts 0 texts ends) i key) ≡ length vs
    long = length-insert (cuts 0 texts ends) i key (omega (arith, count)) ∙ ap (λ n. n + 1) count ∙ sym (ap length vs_are ∙ length-insert values i v within)

    pub put_block : length values < 128 → IsBlock text stops (length vs)
    put_block few = made text stops (length vs) (insert (cuts 0 texts ends) i key) text_put stops_put long (omega (arith, ap length vs_are ∙ length-insert values i v within)) (short_put (cuts 0 texts ends) i key is.short short)

    pub put_entries : (es : List (List ℕ × V)) → entries texts ends values ≡ es → entries text stops vs ≡ insert es i (key, v)
    put_entries es view =
        ap (λ ls. zip ls vs) (made_cuts text stops (insert (cuts 0 texts ends) i key) text_put stops_put)
        ∙ ap (λ ws. zip (insert (cuts 0 texts ends) i key) ws) vs_are
        ∙ zip_put (cuts 0 texts ends) values i key v count within
        ∙ ap (λ fs. insert fs i (key, v)) view
