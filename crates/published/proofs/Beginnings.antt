-- Beginnings of one list, by their lengths.
use Rattle.std.proofs.Common.{◌≡◌, ℕ, ◌<◌, Bool, true, false, List, length, MatchBool, refl, sym, arith}
use Rattle.std.proofs.lemmas.Bool.Decides.{nat_tests}
use lib.Dec.{leb}
use mathlib.Core.List.{IsPrefix}
use Rattle.published.proofs.Prefixes.{prefix_shorter}

module _ {A B : Type 0} (b c : B) (xs ys zs : List A) (m n : ℕ) (of_one : c ≡ b) (here : m ≡ length xs) (there : n ≡ length ys) (p : IsPrefix xs zs) (q : IsPrefix ys zs) where
  begins_at : (t : Bool) → leb m n ≡ t → MatchBool t ((b ≡ c) × IsPrefix xs ys) (((c ≡ b) × IsPrefix ys xs) × (length ys < length xs))
  begins_at true is = (sym of_one, prefix_shorter xs ys zs p q (grind (arith, nat_tests)))
  begins_at false is = ((of_one, prefix_shorter ys xs zs q p (grind (arith, nat_tests))), grind (arith, nat_tests))

  -- of two beginnings the one that has no more begins the other
  pub begins_by : MatchBool (leb m n) ((b ≡ c) × IsPrefix xs ys) (((c ≡ b) × IsPrefix ys xs) × (length ys < length xs))
  begins_by = begins_at (leb m n) refl
