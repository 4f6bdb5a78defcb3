-- Cycles of dependence with a subtracted step, by the names of their relations.
use Rattle.std.specs.Prelude.{◌≡◌, ◌≢◌, true, List, [], ◌∷◌, Contains}
use Rattle.names.specs.declared.relation.RelationName.{RelationName}
use Rattle.names.specs.declared.cause.CycleStep.{CycleStep}
use Rattle.meaning.specs.Config.{Configured, Step}

-- the steps lead from a to b
abbrev pub IsChain : Configured → RelationName → List CycleStep → RelationName → Type 0
IsChain c a [] b = a ≡ b
IsChain c a (s ∷ ss) b = Step c a s.subtracted s.to × IsChain c s.to ss b

-- no two steps end at the same relation
abbrev pub EndsApart : List CycleStep → Type 0
EndsApart [] = Unit {0}
EndsApart (s ∷ ss) = ((t : CycleStep) → Contains ss t → s.to ≢ t.to) × EndsApart ss

-- a cycle from the start back to it, of which the first step is subtracted
pub record IsCycle (c : Configured) (first : CycleStep) (others : List CycleStep) : Type 0 where
  pub start : RelationName
  pub subtracted : first.subtracted ≡ true
  pub chain : IsChain c start (first ∷ others) start
  pub apart : EndsApart (first ∷ others)

-- a cycle that shows that an exclusion depends on itself
abbrev pub IsCertificate : Configured → List CycleStep → Type 0
IsCertificate c [] = ⊥
IsCertificate c (s ∷ ss) = IsCycle c s ss
