-- A block: its texts one after another, where each ends, and their values.
use Rattle.std.specs.Prelude.{◌≡◌, ℕ, ◌+◌, ◌-◌, ◌≤◌, List, [], ◌∷◌, take, drop, length}
use Rattle.std.specs.List.{AllByRecursion, concat, zip}
use Rattle.std.specs.Str.{IsUtf8}

-- the texts, from the one that starts at a place on
abbrev pub cuts : ℕ → List ℕ → List ℕ → List (List ℕ)
cuts start texts [] = []
cuts start texts (end ∷ ends) = take (end - start) texts ∷ cuts end (drop (end - start) texts) ends

-- where each of the texts ends, if the first starts at a place
abbrev pub ends_of : ℕ → List (List ℕ) → List ℕ
ends_of start [] = []
ends_of start (k ∷ ks) = (start + length k) ∷ ends_of (start + length k) ks

-- a text that may stand in a block
abbrev pub IsShort : List ℕ → Type 0
IsShort k = (length k ≤ 511) × IsUtf8 k

-- each text with its value
abbrev pub entries : {V : Type 0} → List ℕ → List ℕ → List V → List (List ℕ × V)
entries texts ends values = zip (cuts 0 texts ends) values

pub record IsBlock (texts : List ℕ) (ends : List ℕ) (count : ℕ) : Type 0 where
  -- nothing stands between the texts nor after them
  pub joined : concat (cuts 0 texts ends) ≡ texts
  pub ended : ends_of 0 (cuts 0 texts ends) ≡ ends
  -- each has a value
  pub paired : length ends ≡ count
  pub few : count ≤ 128
  pub short : AllByRecursion IsShort (cuts 0 texts ends)
