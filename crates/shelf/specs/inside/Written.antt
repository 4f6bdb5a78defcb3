-- What is written at a place.
use Rattle.std.specs.Prelude.{ℕ, zero, suc, ◌+◌, List, [], ◌∷◌, ◌++◌, take, drop, slice_set, slice_index_or}
use Rattle.std.specs.List.{insert, remove}
use Rattle.shelf.specs.inside.Places.{joined}

-- with w as the value at a place
abbrev pub with_value : {V : Type 0} → List (List ℕ × V) → ℕ → V → List (List ℕ × V)
with_value [] i w = []
with_value (e ∷ es) zero w = (e.0, w) ∷ es
with_value (e ∷ es) (suc i) w = e ∷ with_value es i w

-- the entries, with one put in at a place of a block
abbrev pub entries_put : {V : Type 0} → List (List (List ℕ × V)) → ℕ → ℕ → List ℕ × V → List (List ℕ × V)
entries_put bs at i e = joined (take at bs) ++ (insert (slice_index_or bs at []) i e ++ joined (drop (suc at) bs))

-- the entries, without the one at a place of a block
abbrev pub entries_out : {V : Type 0} → List (List (List ℕ × V)) → ℕ → ℕ → List (List ℕ × V)
entries_out bs at i = joined (take at bs) ++ (remove (slice_index_or bs at []) i ++ joined (drop (suc at) bs))

-- the blocks, one of them parted
abbrev pub parted : {V : Type 0} → List (List (List ℕ × V)) → ℕ → ℕ → List (List (List ℕ × V))
parted bs at cut = insert (slice_set bs at (take cut (slice_index_or bs at []))) (at + 1) (drop cut (slice_index_or bs at []))
