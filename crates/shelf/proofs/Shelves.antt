-- All blocks.
use Rattle.std.proofs.Common.{◌≡◌, ℕ, ◌<◌, List, [], ◌∷◌, ◌++◌, length, eqb, ap, sym, subst, ◌∙◌, arith}
use Rattle.std.specs.Prelude.{true}
use Rattle.std.proofs.lemmas.List.{nil_from_length}
use Rattle.std.proofs.lemmas.Bool.Decides.{nat_tests}
use Rattle.std.specs.List.Sorted.{IsStrictlySortedBy}
use Rattle.shelf.specs.inside.Places.{AreFilled, joined}
use Rattle.shelf.specs.inside.Walks.{IsShelf}

both_more : (n m : ℕ) → 0 < n → 0 < m → eqb n 0 ≡ eqb m 0
both_more n m h k = grind (arith, nat_tests)

pub no_length : (n m : ℕ) → eqb n 0 ≡ true → n ≡ m → m ≡ 0
no_length n m h e = grind (arith, nat_tests)

module _ {V : Type 0} where
  pub none_shelf : IsShelf {V = V} []
  unfolding IsStrictlySortedBy
  none_shelf = record { filled = tt; sorted = tt }

  pub empty_alike : (bs : List (List (List ℕ × V))) (n : ℕ) → n ≡ length bs → AreFilled bs → eqb n 0 ≡ eqb (length (joined bs)) 0
  empty_alike [] n h filled = ap (λ k. eqb k 0) h
  empty_alike ([] ∷ bs) n h filled = absurd (omega (arith, filled.0))
  empty_alike ((e ∷ es) ∷ bs) n h filled = both_more n (length (e ∷ es ++ joined bs)) (omega arith) (omega arith)

  pub one_shelf : (bs now : List (List (List ℕ × V))) (b : List (List ℕ × V)) (e : List ℕ × V) (n : ℕ) → eqb n 0 ≡ true → n ≡ length bs → b ≡ e ∷ [] → now ≡ bs ++ b ∷ [] → IsShelf now
  unfolding IsStrictlySortedBy
  one_shelf bs now b e n none len one is =
      subst IsShelf (sym (is ∙ ap (λ cs. cs ++ b ∷ []) (nil_from_length bs (no_length n (length bs) none len)) ∙ ap (λ c. c ∷ []) one)) single
    where
      single : IsShelf ((e ∷ []) ∷ [])
      single = record { filled = (omega arith, tt); sorted = (tt, tt) }
