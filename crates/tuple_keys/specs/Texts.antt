-- The order of texts, and what those of some tuples begin with.
use Rattle.std.specs.Prelude.{◌≡◌, ℕ, List, Bool}
use Rattle.std.specs.Ordering.{nat_cmp}
use Rattle.std.specs.List.{starts_with}
use Rattle.std.specs.Cmp.Lexicographic.{slice_cmp}
use Rattle.std.specs.declared.cmp.Ordering.{Ordering}
use Rattle.std.proofs.Math.Dec.{eqb}
use Rattle.names.specs.declared.tuple.Tuple.{Tuple}
use Rattle.tuple_keys.specs.Spelled.{tuple_of, IsSpelling}

-- the order of texts, by their bytes
abbrev pub text_cmp : List ℕ → List ℕ → Ordering
text_cmp = slice_cmp nat_cmp

-- whether the second text begins with the first
abbrev pub begins : List ℕ → List ℕ → Bool
begins start text = starts_with eqb text start

-- the tuples that pass a test are those whose texts begin so
abbrev pub IsStartOf : List ℕ → (Tuple → Bool) → Type 0
IsStartOf start test = (text : List ℕ) → IsSpelling text → begins start text ≡ test (tuple_of text)
