-- A walk's steps.
use Rattle.std.proofs.Common.{◌≡◌, ℕ, zero, suc, ◌+◌, ◌-◌, ◌<◌, ◌≤◌, List, [], ◌∷◌, ◌++◌, length, take, drop, get_or, refl, ap, sym, subst, ◌∙◌, arith, add-one}
use Rattle.std.specs.Prelude.{Some}
use Rattle.std.specs.List.{slice_get}
use Rattle.std.proofs.lemmas.List.{drop_at, take_rest, get_or_default}
use Rattle.shelf.specs.inside.Places.{AreSorted, AreFilled, joined}
use Rattle.shelf.specs.inside.Walks.{IsInside, IsShelf, IsWalk, rest}
use Rattle.shelf.proofs.Order.{sorted_right, joined_split}

module _ {V : Type 0} where
  pub filled_from : (bs : List (List (List ℕ × V))) (i : ℕ) → AreFilled bs → AreFilled (drop i bs)
  filled_from bs zero filled = filled
  filled_from [] (suc i) filled = filled
  filled_from (b ∷ bs) (suc i) filled = filled_from bs i filled.1

  pub shelf_from : (bs : List (List (List ℕ × V))) (i : ℕ) → IsShelf bs → IsShelf (drop i bs)
  shelf_from bs i shelf = record {
    filled = filled_from bs i shelf.filled;
    sorted = sorted_right (joined (take i bs)) (joined (drop i bs)) (subst AreSorted (sym (joined_split bs i)) shelf.sorted);
  }

  pub at_start : (bs : List (List (List ℕ × V))) → IsShelf bs → IsWalk bs 0
  at_start bs shelf = record { blocks = shelf; inside = first bs shelf.filled }
    where
      first : (bs : List (List (List ℕ × V))) → AreFilled bs → IsInside bs 0
      first [] filled = refl
      first (b ∷ bs) filled = filled.0

  inside_at : (bs : List (List (List ℕ × V))) (at index : ℕ) → at < length bs → index < length (get_or bs at []) → IsInside (drop at bs) index
  inside_at [] at index within h = absurd (omega arith)
  inside_at (b ∷ bs) zero index within h = h
  inside_at (b ∷ bs) (suc at) index within h = inside_at bs at index (omega arith) h

  pub walk_inside : (bs : List (List (List ℕ × V))) (at index : ℕ) (b : List (List ℕ × V)) → IsShelf bs → at < length bs → b ≡ get_or bs at b → index < length b → IsWalk (take (length bs - at) (drop at bs)) index
  walk_inside bs at index b shelf within reads h =
      subst (λ cs. IsWalk cs index) (sym (take_rest bs at))
      (record { blocks = shelf_from bs at shelf; inside = inside_at bs at index within (subst (λ c. index < length c) (reads ∙ get_or_default bs at b [] within) h) })

  pub walk_next : (bs : List (List (List ℕ × V))) (at : ℕ) → IsShelf bs → IsWalk (take (length bs - at) (drop at bs)) 0
  walk_next bs at shelf = subst (λ cs. IsWalk cs 0) (sym (take_rest bs at)) (at_start (drop at bs) (shelf_from bs at shelf))

  -- the current entry is the first that is left
  step : (b ys : List (List ℕ × V)) (index : ℕ) (e : List ℕ × V) → slice_get b index ≡ Some e → drop index (b ++ ys) ≡ e ∷ drop (suc index) (b ++ ys)
  step [] ys index e h = cc
  step (f ∷ b) ys zero e h = let same : f ≡ e = cc in ap (λ x. x ∷ b ++ ys) same
  step (f ∷ b) ys (suc index) e h = step b ys index e h

  module _ (bs : List (List (List ℕ × V))) (index : ℕ) (is : IsWalk bs index) (b : List (List ℕ × V)) (others : List (List (List ℕ × V))) (first : bs ≡ b ∷ others) where
    pub first_inside : index < length b
    first_inside = let P : List (List (List ℕ × V)) → Type 0 = λ cs. IsInside cs index in subst P first is.inside

    pub others_walk : IsWalk others 0
    others_walk = at_start others (shelf_from (b ∷ others) 1 (subst IsShelf first is.blocks))

    pub stays : (e : List ℕ × V) (all : List (List ℕ × V)) → slice_get b index ≡ Some e → rest bs index ≡ all → all ≡ e ∷ rest bs (index + 1)
    stays e all h view =
        sym view ∙ ap (λ cs. rest cs index) first ∙ step b (joined others) index e h
        ∙ ap (λ n. e ∷ drop n (b ++ joined others)) (sym (add-one index)) ∙ ap (λ cs. e ∷ rest cs (index + 1)) (sym first)

    pub goes_on : (e : List ℕ × V) (all : List (List ℕ × V)) → slice_get b index ≡ Some e → rest bs index ≡ all → length b ≤ index + 1 → all ≡ e ∷ rest others 0
    goes_on e all h view last =
        sym view ∙ ap (λ cs. rest cs index) first ∙ step b (joined others) index e h
        ∙ ap (λ es. e ∷ es) (drop_at b (joined others) (suc index) (omega (arith, first_inside)))
