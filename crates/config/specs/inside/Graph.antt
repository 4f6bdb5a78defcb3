-- The graph of a configuration, whose nodes are the places of its relations.
use Rattle.std.specs.Prelude.{◌≡◌, ℕ, ◌<◌, ◌≤◌, ◌+◌, ◌⊎◌, List, [], Contains, false, length, slice_index_or}
use Rattle.names.specs.declared.relation.RelationName.{RelationName}
use Rattle.names.specs.declared.refusal.Refusal.{Refusal}
use Rattle.names.specs.declared.refusal.Refusal.TheVariants.{ConfigRefused, Memory}
use Rattle.names.specs.declared.cause.Cause.TheVariants.{Cycle}
use Rattle.names.specs.declared.cause.CycleStep.{CycleStep}
use Rattle.strata.specs.declared.graph.Step.{Step}
use Rattle.meaning.specs.Form.{This}
use Rattle.meaning.specs.Config.{Configured, Defined, StepsTo}
use Rattle.config.specs.Cycles.{IsCertificate}

-- a relation of no name
abbrev pub nowhere : Defined
nowhere = record { rel = record { namespace = []; relation = [] }; types = []; form = This; indexed = false }

-- the relation at a place
abbrev pub relation_at : Configured → ℕ → Defined
relation_at c place = slice_index_or c.relations place nowhere

abbrev pub name_at : Configured → ℕ → RelationName
name_at c place = (relation_at c place).rel

-- the relation at one place has a step to the one at another
pub record IsStep (c : Configured) (s : Step) : Type 0 where
  pub from : s.from < length c.relations
  pub to : s.to < length c.relations
  pub step : StepsTo c (relation_at c s.from) (relation_at c s.from).form s.subtracted (name_at c s.to)

-- the step is from one place to the other
abbrev pub IsBetween : (from to : ℕ) → Step → Type 0
IsBetween from to s = (s.from ≡ from) × (s.to ≡ to)

-- the steps in question were added, at most n, and nothing else
pub record Adds (c : Configured) (old new : List Step) (InQuestion : Step → Type 0) (n : ℕ) : Type 0 where
  pub remains : (s : Step) → Contains old s → Contains new s
  pub sound : (s : Step) → Contains new s → Contains old s ⊎ IsStep c s
  pub each : (s : Step) → InQuestion s → IsStep c s → Contains new s
  pub few : length new ≤ length old + n

-- the steps are those of the configuration
pub record IsGraph (c : Configured) (steps : List Step) : Type 0 where
  pub sound : (s : Step) → Contains steps s → IsStep c s
  pub each : (s : Step) → IsStep c s → Contains steps s

-- the step by the name of the relation at which it ends
abbrev pub step_by_name : Configured → Step → CycleStep
step_by_name c s = record { subtracted = s.subtracted; to = name_at c s.to }

-- why there are no levels
abbrev pub LevelsRefused : Configured → Refusal → Type 0
LevelsRefused c (ConfigRefused (Cycle steps)) = IsCertificate c steps
LevelsRefused c Memory = Unit {0}
LevelsRefused c _ = ⊥
