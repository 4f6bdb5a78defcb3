-- The ends of texts that stand one after another.
use Rattle.std.specs.Prelude.{ℕ, suc, ◌+◌, ◌-◌, List, ◌∷◌, ◌++◌, take, drop, map, slice_index}

-- with that of a text of so many bytes put in at a place: those from there on are so much later
abbrev pub with_end : List ℕ → ℕ → ℕ → List ℕ
with_end ends i by = take i ends ++ map (λ end. end + by) (slice_index (0 ∷ ends) i ∷ drop i ends)

-- without that of a text of so many bytes at a place: those after it are so much earlier
abbrev pub without_end : List ℕ → ℕ → ℕ → List ℕ
without_end ends i by = take i ends ++ map (λ end. end - by) (drop (suc i) ends)
