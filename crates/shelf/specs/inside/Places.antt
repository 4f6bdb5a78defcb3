-- Where a text stands among entries in order, or would.
use Rattle.std.specs.Prelude.{◌≡◌, ℕ, suc, ◌<◌, ◌≤◌, List, [], length, take, drop, slice_index_or}
use Rattle.std.specs.List.{AllByRecursion, flat_map}
use Rattle.std.specs.List.Sorted.{IsStrictlySortedBy}
use Rattle.std.specs.Map.{keys_of}
use Rattle.std.specs.declared.cmp.Ordering.TheVariants.{Less, Greater}
use Rattle.shelf.specs.Texts.{text_cmp}

-- the texts are in order
abbrev pub AreSorted : {V : Type 0} → List (List ℕ × V) → Type 0
AreSorted es = IsStrictlySortedBy text_cmp (keys_of es)

-- each text is below the key; above it
abbrev pub AreBelow : {V : Type 0} → List ℕ → List (List ℕ × V) → Type 0
AreBelow key es = AllByRecursion (λ e. text_cmp e.0 key ≡ Less) es

abbrev pub AreAbove : {V : Type 0} → List ℕ → List (List ℕ × V) → Type 0
AreAbove key es = AllByRecursion (λ e. text_cmp key e.0 ≡ Less) es

-- the key is the text at a place
pub record IsAt {V : Type 0} (key : List ℕ) (i : ℕ) (es : List (List ℕ × V)) : Type 0 where
  pub within : i < length es
  pub same : slice_index_or (keys_of es) i [] ≡ key

-- the key is none of them, and its place is this
pub record IsBetween {V : Type 0} (key : List ℕ) (i : ℕ) (es : List (List ℕ × V)) : Type 0 where
  pub within : i ≤ length es
  pub below : AreBelow key (take i es)
  pub above : AreAbove key (drop i es)

-- no text is below the key
abbrev pub AreFrom : {V : Type 0} → List ℕ → List (List ℕ × V) → Type 0
AreFrom key es = AllByRecursion (λ e. text_cmp key e.0 ≡ Greater → ⊥) es

-- so many texts are below the key
pub record IsPlace {V : Type 0} (key : List ℕ) (i : ℕ) (es : List (List ℕ × V)) : Type 0 where
  pub within : i ≤ length es
  pub below : AreBelow key (take i es)
  pub from : AreFrom key (drop i es)

-- the entries of all blocks
abbrev pub joined : {V : Type 0} → List (List (List ℕ × V)) → List (List ℕ × V)
joined bs = flat_map (λ b. b) bs

-- no block is empty
abbrev pub AreFilled : {V : Type 0} → List (List (List ℕ × V)) → Type 0
AreFilled bs = AllByRecursion (λ b. 0 < length b) bs

-- the key stands in this block, or in none
pub record IsBlockOf {V : Type 0} (key : List ℕ) (i : ℕ) (bs : List (List (List ℕ × V))) : Type 0 where
  pub within : i < length bs
  pub below : AreBelow key (joined (take i bs))
  pub above : AreAbove key (joined (drop (suc i) bs))

-- the key is the text at a place of a block
pub record IsFound {V : Type 0} (key : List ℕ) (at i : ℕ) (bs : List (List (List ℕ × V))) : Type 0 where
  pub block : IsBlockOf key at bs
  pub there : IsAt key i (slice_index_or bs at [])
