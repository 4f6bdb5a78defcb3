-- Which of the nodes that stay the roots no longer reach. No promise rests on it.
use Rattle.std.specs.Prelude.{ℕ, ◌≡◌, Bool, true, not, ◌&&◌, ◌||◌, ◌⊎◌, List}
use Rattle.std.specs.List.{list_any}
use Rattle.least_sets.specs.World.{has, arcs_of}
use Rattle.least_sets.specs.Walks.{IsReached}
use Rattle.region.specs.declared.rule.Told.{Told}
use Rattle.region.specs.Rules.{shape_of}
use Rattle.region.specs.Tables.{Rows, arc_in}
use Rattle.region.specs.Gathered.{stays}

-- the nodes that one told of names
abbrev pub names_told : List Told → ℕ → Bool
names_told told m = list_any (λ t. has (arcs_of (shape_of t.rule)) m) told

-- all that some nodes lead to
pub record IsLedTo (arc : ℕ → ℕ → Bool) (starts found : List ℕ) : Type 0 where
  pub starts_in : (n : ℕ) → has starts n ≡ true → has found n ≡ true
  pub closed : (n m : ℕ) → has found n ≡ true → arc n m ≡ true → has found m ≡ true
  pub sound : (n : ℕ) → has found n ≡ true → IsReached arc starts n

-- a node that stays, that none told of names and that is no root
abbrev pub is_loose : Rows → (touched named roots : List ℕ) → ℕ → Bool
is_loose old touched named roots n = stays old touched n && not (has named n || has roots n)

-- the loose ones of the nodes that one of `from` named, and of those that have become roots or are none any more
pub record AreLoose (old : Rows) (touched named roots turned from loose : List ℕ) : Type 0 where
  pub only : (n : ℕ) → has loose n ≡ true → is_loose old touched named roots n ≡ true
  pub cut : (n : ℕ) → has turned n ≡ true → is_loose old touched named roots n ≡ true → has loose n ≡ true
  pub lost : (n m : ℕ) → has from n ≡ true → arc_in old n m ≡ true → is_loose old touched named roots m ≡ true → has loose m ≡ true

-- a node names another, stays, and is no suspect
abbrev pub supports : Rows → (touched suspects : List ℕ) → ℕ → ℕ → Bool
supports old touched suspects n b = arc_in old b n && (stays old touched b && not (has suspects b))

-- a root, a node that one told of names, or one that a node supports
abbrev pub IsSupported : Rows → (touched named roots suspects : List ℕ) → ℕ → Type 0
IsSupported old touched named roots suspects n =
    ((has roots n || has named n) ≡ true) ⊎ ((b : ℕ) × (supports old touched suspects n b ≡ true))

-- The suspects are all that the loose nodes lead to. Of them those go to which no supported suspect leads.
pub record IsSwept (old : Rows) (touched named roots turned gone : List ℕ) : Type 0 where
  pub loose : List ℕ
  pub suspects : List ℕ
  pub starts : List ℕ
  pub alive : List ℕ
  pub are_loose : AreLoose old touched named roots turned touched loose
  pub suspected : IsLedTo (arc_in old) loose suspects
  pub only : (n : ℕ) → has starts n ≡ true → (has suspects n ≡ true) × IsSupported old touched named roots suspects n
  pub supported : (n : ℕ) → has suspects n ≡ true → IsSupported old touched named roots suspects n → has starts n ≡ true
  pub living : IsLedTo (arc_in old) starts alive
  pub gone_is : (n : ℕ) → has gone n ≡ (has suspects n && not (has alive n))
