-- A walk: the blocks from the current one on, and how many of its texts have been passed.
use Rattle.std.specs.Prelude.{◌≡◌, ℕ, ◌<◌, List, [], ◌∷◌, length, drop}
use Rattle.shelf.specs.inside.Places.{AreSorted, AreFilled, joined}

-- what is left of the current block is not empty
abbrev pub IsInside : {V : Type 0} → List (List (List ℕ × V)) → ℕ → Type 0
IsInside [] index = index ≡ 0
IsInside (b ∷ bs) index = index < length b

-- the entries that are left
abbrev pub rest : {V : Type 0} → List (List (List ℕ × V)) → ℕ → List (List ℕ × V)
rest bs index = drop index (joined bs)

pub record IsShelf {V : Type 0} (bs : List (List (List ℕ × V))) : Type 0 where
  pub filled : AreFilled bs
  pub sorted : AreSorted (joined bs)

pub record IsWalk {V : Type 0} (bs : List (List (List ℕ × V))) (index : ℕ) : Type 0 where
  pub blocks : IsShelf bs
  pub inside : IsInside bs index
