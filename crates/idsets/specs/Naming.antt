-- Names that are numbered in the order in which they were first seen.
use Rattle.std.specs.Prelude.{◌≡◌, ℕ, List, Some}
use Rattle.std.specs.List.{slice_get}
use Rattle.std.specs.Map.{lookup}
use Rattle.std.specs.Ordering.{is_eq}
use Rattle.std.specs.declared.cmp.Ordering.{Ordering}

-- no name has two ids
abbrev pub AreDistinct : {N : Type 0} → List N → Type 0
AreDistinct {N} names = (i j : ℕ) (n : N) → slice_get names i ≡ Some n → slice_get names j ≡ Some n → i ≡ j

-- the entries have each name at its id, and no other
pub record IsIndex {N : Type 0} (cmp : N → N → Ordering) (names : List N) (entries : List (N × ℕ)) : Type 0 where
  pub named : (n : N) (id : ℕ) → lookup (λ k. is_eq (cmp n k)) entries ≡ Some id → slice_get names id ≡ Some n
  pub found : (n : N) (id : ℕ) → slice_get names id ≡ Some n → lookup (λ k. is_eq (cmp n k)) entries ≡ Some id
