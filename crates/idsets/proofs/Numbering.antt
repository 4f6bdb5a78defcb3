-- Names that are numbered by their places.
use Rattle.std.proofs.Common.{◌≡◌, ℕ, zero, suc, ◌<◌, List, [], ◌∷◌, ◌++◌, length, refl, arith}
use Rattle.std.specs.Prelude.{Some}
use Rattle.std.specs.List.{slice_get}
use Rattle.std.proofs.lemmas.Option.{none-some}

module _ {N : Type 0} where
  pub front_get : (names more : List N) (i : ℕ) (n : N) → slice_get names i ≡ Some n → slice_get (names ++ more) i ≡ Some n
  front_get [] more i n h = absurd (none-some n h)
  front_get (a ∷ names) more zero n h = h
  front_get (a ∷ names) more (suc i) n h = front_get names more i n h

  back_get : (names more : List N) (i : ℕ) → i < length names → slice_get (names ++ more) i ≡ slice_get names i
  back_get [] more i l = absurd (omega arith)
  back_get (a ∷ names) more zero l = refl
  back_get (a ∷ names) more (suc i) l = back_get names more i (omega arith)

  pub last_get : (names : List N) (n : N) → slice_get (names ++ n ∷ []) (length names) ≡ Some n
  last_get [] n = refl
  last_get (a ∷ names) n = last_get names n
