-- Texts that stand one after another, parted at a place.
use Rattle.std.proofs.Common.{◌≡◌, ℕ, zero, suc, ◌+◌, ◌-◌, ◌<◌, ◌≤◌, List, [], ◌∷◌, ◌++◌, length, take, drop, get_or, map, refl, ap, sym, subst, ◌∙◌, arith}
use Rattle.std.specs.Prelude.{All}
use Rattle.std.specs.List.{AllByRecursion, concat, zip}
use Rattle.std.proofs.lemmas.List.{take_at, drop_at, length-take-le, length-drop}
use Rattle.shelf.specs.inside.Blocks.{cuts, ends_of, entries, IsShort, IsBlock}
use Rattle.shelf.proofs.Cuts.{short_from}
use Rattle.shelf.proofs.Inserting.{concat_split, take_ends, drop_ends, made, made_cuts, count, start_is}

-- all earlier by so much
pub lowered : (start by : ℕ) (ks : List (List ℕ)) → map (λ end. end - by) (ends_of (start + by) ks) ≡ ends_of start ks
lowered start by [] = refl
lowered start by (k ∷ ks) =
    let e : start + by + length k - by ≡ start + length k = omega arith in
    let f : start + by + length k ≡ start + length k + by = omega arith in
    rw e (ap (λ es. (start + length k) ∷ es) (ap (λ n. map (λ end. end - by) (ends_of n ks)) f ∙ lowered (start + length k) by ks))

ends_at_least : (start : ℕ) (ks : List (List ℕ)) → All (λ end. start ≤ end) (ends_of start ks)
ends_at_least start [] = λ i d h. absurd (omega arith)
ends_at_least start (k ∷ ks) = more (ends_at_least (start + length k) ks)
  where
    more : All (λ end. start + length k ≤ end) (ends_of (start + length k) ks) → (i d : ℕ) → i < length (ends_of start (k ∷ ks)) → start ≤ get_or (ends_of start (k ∷ ks)) i d
    more rest zero d h = omega arith
    more rest (suc i) d h = omega (arith, rest i d (omega arith))

short_to : (ks : List (List ℕ)) (i : ℕ) → AllByRecursion IsShort ks → AllByRecursion IsShort (take i ks)
short_to ks zero s = tt
short_to [] (suc i) s = tt
short_to (k ∷ ks) (suc i) s = (s.0, short_to ks i s.1)

zip_take : {V : Type 0} (ks : List (List ℕ)) (vs : List V) (i : ℕ) → zip (take i ks) (take i vs) ≡ take i (zip ks vs)
zip_take ks vs zero = refl
zip_take [] vs (suc i) = refl
zip_take (k ∷ ks) [] (suc i) = refl
zip_take (k ∷ ks) (v ∷ vs) (suc i) = ap (λ es. (k, v) ∷ es) (zip_take ks vs i)

zip_drop : {V : Type 0} (ks : List (List ℕ)) (vs : List V) (i : ℕ) → length ks ≡ length vs → zip (drop i ks) (drop i vs) ≡ drop i (zip ks vs)
zip_drop ks vs zero h = refl
zip_drop [] vs (suc i) h = refl
zip_drop (k ∷ ks) [] (suc i) h = absurd (omega (arith, h))
zip_drop (k ∷ ks) (v ∷ vs) (suc i) h = zip_drop ks vs i (omega (arith, h))

module _ {V : Type 0} (texts ends : List ℕ) (values : List V) (is : IsBlock texts ends (length values)) (at : ℕ) (within : at ≤ length values) (start : ℕ) (starts : start ≡ get_or (0 ∷ ends) at 0) where
  begins : start ≡ length (concat (take at (cuts 0 texts ends)))
  begins = starts ∙ start_is texts ends values is at within

  parts : texts ≡ concat (take at (cuts 0 texts ends)) ++ concat (drop at (cuts 0 texts ends))
  parts = sym is.joined ∙ sym (concat_split (cuts 0 texts ends) at)

  ends_after : drop at ends ≡ ends_of start (drop at (cuts 0 texts ends))
  ends_after =
      ap (drop at) (sym is.ended) ∙ drop_ends 0 (cuts 0 texts ends) at
      ∙ ap (λ n. ends_of n (drop at (cuts 0 texts ends))) (let e : 0 + length (concat (take at (cuts 0 texts ends))) ≡ start = omega (arith, begins) in e)

  rising_from : All (λ end. start ≤ end) (drop at ends)
  rising_from = subst (λ es. All (λ end. start ≤ end) es) (sym ends_after) (ends_at_least start (drop at (cuts 0 texts ends)))

  module _ (text stops : List ℕ) (vs : List V) (text_is : text ≡ take start texts) (stops_are : stops ≡ take at ends) (vs_are : vs ≡ take at values) where
    left_text : text ≡ concat (take at (cuts 0 texts ends))
    left_text = text_is ∙ ap (take start) parts ∙ take_at (concat (take at (cuts 0 texts ends))) (concat (drop at (cuts 0 texts ends))) start (sym begins)

    left_stops : stops ≡ ends_of 0 (take at (cuts 0 texts ends))
    left_stops = stops_are ∙ ap (take at) (sym is.ended) ∙ take_ends 0 (cuts 0 texts ends) at

    pub left_block : IsBlock text stops (length vs)
    left_block =
        let n = count texts ends values is at within in
        let m = ap length vs_are in
        made text stops (length vs) (take at (cuts 0 texts ends)) left_text left_stops
        (length-take-le at (cuts 0 texts ends) (omega arith) ∙ sym (m ∙ length-take-le at values within))
        (omega (arith, m ∙ length-take-le at values within, is.few)) (short_to (cuts 0 texts ends) at is.short)

    pub left_entries : (es : List (List ℕ × V)) → entries texts ends values ≡ es → entries text stops vs ≡ take at es
    left_entries es view =
        ap (λ ks. zip ks vs) (made_cuts text stops (take at (cuts 0 texts ends)) left_text left_stops)
        ∙ ap (zip (take at (cuts 0 texts ends))) vs_are ∙ zip_take (cuts 0 texts ends) values at ∙ ap (take at) view

  module _ (text stops : List ℕ) (vs : List V) (text_is : text ≡ drop start texts) (stops_are : stops ≡ map (λ end. end - start) (drop at ends)) (vs_are : vs ≡ drop at values) where
    right_text : text ≡ concat (drop at (cuts 0 texts ends))
    right_text = text_is ∙ ap (drop start) parts ∙ drop_at (concat (take at (cuts 0 texts ends))) (concat (drop at (cuts 0 texts ends))) start (sym begins)

    right_stops : stops ≡ ends_of 0 (drop at (cuts 0 texts ends))
    right_stops =
        stops_are ∙ ap (map (λ end. end - start)) (ends_after ∙ ap (λ n. ends_of n (drop at (cuts 0 texts ends))) (let e : start ≡ 0 + start = omega arith in e))
        ∙ lowered 0 start (drop at (cuts 0 texts ends))

    pub right_block : IsBlock text stops (length vs)
    right_block =
        let n = count texts ends values is at within in
        let m = ap length vs_are ∙ length-drop at values in
        made text stops (length vs) (drop at (cuts 0 texts ends)) right_text right_stops
        (length-drop at (cuts 0 texts ends) ∙ ap (λ k. k - at) n ∙ sym m)
        (omega (arith, m, is.few)) (short_from (cuts 0 texts ends) at is.short)

    pub right_entries : (es : List (List ℕ × V)) → entries texts ends values ≡ es → entries text stops vs ≡ drop at es
    right_entries es view =
        ap (λ ks. zip ks vs) (made_cuts text stops (drop at (cuts 0 texts ends)) right_text right_stops)
        ∙ ap (zip (drop at (cuts 0 texts ends))) vs_are ∙ zip_drop (cuts 0 texts ends) values at (count texts ends values is at within) ∙ ap (drop at) view

-- none of the later ends is below the start
pub rising : {V : Type 0} (texts ends : List ℕ) (values : List V) (is : IsBlock texts ends (length values)) (at : ℕ) → at ≤ length values → (stops : List ℕ) → stops ≡ ends → All (λ end. get_or (0 ∷ stops) at 0 ≤ end) (drop at stops)
rising texts ends values is at within stops same =
    subst (λ es. All (λ end. get_or (0 ∷ es) at 0 ≤ end) (drop at es)) (sym same) (rising_from texts ends values is at within (get_or (0 ∷ ends) at 0) refl)

pub lowered_from : (stops ends : List ℕ) (at start : ℕ) → stops ≡ ends → start ≡ get_or (0 ∷ ends) at 0 → map (λ end. end - get_or (0 ∷ stops) at 0) (drop at stops) ≡ map (λ end. end - start) (drop at ends)
lowered_from stops ends at start same starts =
    ap (λ es. map (λ end. end - get_or (0 ∷ es) at 0) (drop at es)) same ∙ ap (λ n. map (λ end. end - n) (drop at ends)) (sym starts)
