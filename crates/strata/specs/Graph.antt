-- Signed graphs, their levels, and cycles that begin with a subtracted step.
use Rattle.std.specs.Prelude.{◌≡◌, ◌≢◌, ℕ, ◌<◌, List, [], ◌∷◌, Bool, true, cond, All, Contains, length, slice_index}
use Rattle.strata.specs.declared.graph.Step.{Step}
use Rattle.strata.specs.declared.graph.Answer.{Answer}
use Rattle.strata.specs.declared.graph.Answer.TheVariants.{Levels, Cycle}
use Rattle.meaning.specs.Levels.{IsLevel}

-- each step is from a number below count, and to one
abbrev pub AreBelow : ℕ → List Step → Type 0
AreBelow count steps = All (λ s. (s.from < count) × (s.to < count)) steps

-- the steps have one from a to b, with this sign
abbrev pub HasStep : List Step → ℕ → Bool → ℕ → Type 0
HasStep steps a sign b = Contains steps (record { from = a; to = b; subtracted = sign })

-- what a step adds to a level
abbrev pub sign_cost : Bool → ℕ
sign_cost b = cond b 1 0

-- the level of each number below count
abbrev pub AreLevels : List Step → ℕ → List ℕ → Type 0
AreLevels steps count levels = (length levels ≡ count) × ((r : ℕ) → r < count → IsLevel (HasStep steps) r (slice_index levels r))

-- each step begins where the one before it ends
abbrev pub IsChain : ℕ → List Step → ℕ → Type 0
IsChain a [] b = a ≡ b
IsChain a (s ∷ ss) b = (s.from ≡ a) × IsChain s.to ss b

-- no two steps end at the same place
abbrev pub EndsApart : List Step → Type 0
EndsApart [] = Unit {0}
EndsApart (s ∷ ss) = ((t : Step) → Contains ss t → s.to ≢ t.to) × EndsApart ss

-- a cycle of the steps, of which the first is subtracted and no two end at the same place
pub record IsCycle (steps : List Step) (first : Step) (others : List Step) : Type 0 where
  pub subtracted : first.subtracted ≡ true
  pub chain : IsChain first.from (first ∷ others) first.from
  pub steps_in : (s : Step) → Contains (first ∷ others) s → Contains steps s
  pub apart : EndsApart (first ∷ others)

-- a cycle that shows that there are no levels
abbrev pub IsCertificate : List Step → List Step → Type 0
IsCertificate steps [] = ⊥
IsCertificate steps (s ∷ ss) = IsCycle steps s ss

-- the levels, or a cycle
abbrev pub IsAnswer : List Step → ℕ → Answer → Type 0
IsAnswer steps count (Levels v) = AreLevels steps count v.items
IsAnswer steps count (Cycle v) = IsCertificate steps v.items

-- b comes from a by some steps
pub data Walk (steps : List Step) : ℕ → ℕ → Type 0 where
  here : {a : ℕ} → Walk steps a a
  onward : {a b c : ℕ} {sign : Bool} → HasStep steps a sign b → Walk steps b c → Walk steps a c

-- no subtracted step to b has a walk back
abbrev pub NoneBackTo : List Step → ℕ → Type 0
NoneBackTo steps b = (a : ℕ) → HasStep steps a true b → Walk steps b a → ⊥

-- no subtracted step has a walk back
abbrev pub NoneBack : List Step → Type 0
NoneBack steps = (a b : ℕ) → HasStep steps a true b → Walk steps b a → ⊥
