-- Where a test finds nothing, each passes.
use Rattle.std.proofs.Common.{◌≡◌, Bool, true, false, List, [], ◌∷◌, refl, sym, cond, Option, Some, None}
use mathlib.Core.Bool.{true≢false}
use Rattle.std.specs.Prelude.{◌&&◌, not, is_some}
use Rattle.std.specs.Option.{is_none, option_map}
use Rattle.std.specs.List.{find, list_all}

pub none_by : {A : Type 0} (o : Option A) (b : Bool) → is_some o ≡ not b → b ≡ is_none o
none_by None true h = refl
none_by None false h = absurd (true≢false (sym h))
none_by (Some x) true h = absurd (true≢false h)
none_by (Some x) false h = refl

pub none_mapped : {A B : Type 0} (f : A → B) (o : Option A) → is_none o ≡ is_none (option_map f o)
none_mapped f None = refl
none_mapped f (Some x) = refl

pub none_found : {A : Type 0} (p : A → Bool) (xs : List A) → is_none (find (λ x. not (p x)) xs) ≡ list_all p xs
none_found p [] = refl
none_found p (x ∷ xs) = by_test (p x) (none_found p xs)
  where
    by_test : (b : Bool) → is_none (find (λ x. not (p x)) xs) ≡ list_all p xs → is_none (cond (not b) (Some x) (find (λ x. not (p x)) xs)) ≡ (b && list_all p xs)
    by_test true rest = rest
    by_test false rest = refl
