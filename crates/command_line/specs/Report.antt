-- What is printed of a configuration.
use Rattle.std.specs.Prelude.{ℕ, ◌≡◌, ◌++◌, Bool, true, false, List, [], ◌∷◌, codes, decimal}
use Rattle.std.specs.List.{flat_map}
use Rattle.names.specs.Refusals.{cause_name_of}
use Rattle.names.specs.Spelling.{relation_text}
use Rattle.names.specs.declared.cause.Cause.{Cause}
use Rattle.names.specs.declared.cause.Cause.TheVariants.{Cycle}
use Rattle.names.specs.declared.cause.CycleStep.{CycleStep}
use Rattle.names.specs.declared.relation.RelationName.{RelationName}
use Rattle.meaning.specs.Config.{Configured, Defined}
use Rattle.config.specs.Causes.{Accepts, IsCause}
use Rattle.config.specs.Levels.{AreLevels}
use Rattle.bodies.specs.Replies.{start_text, signed_text}

-- a relation, a space and its level
abbrev pub level_line : RelationName → ℕ → List ℕ
level_line r level = relation_text r ++ 32 ∷ (decimal level ++ 10 ∷ [])

-- a line for each relation
abbrev pub level_lines : List Defined → List ℕ → List ℕ
level_lines [] levels = []
level_lines (d ∷ ds) [] = []
level_lines (d ∷ ds) (level ∷ levels) = level_line d.rel level ++ level_lines ds levels

-- the relation at which a cycle begins, and each that a step ends at after the step's sign
abbrev pub cycle_line : List CycleStep → List ℕ
cycle_line steps = start_text steps ++ (flat_map (λ s. 32 ∷ signed_text s) steps ++ 10 ∷ [])

abbrev pub more_lines : Cause → List ℕ
more_lines (Cycle steps) = cycle_line steps
more_lines _ = []

-- the cause, and for a cycle its relations
abbrev pub cause_lines : Cause → List ℕ
cause_lines cause = codes "refused 9 " ++ (cause_name_of cause ++ (10 ∷ more_lines cause))

-- The text tells of these bytes: the levels of the valid configuration that they are, or the first cause that applies.
abbrev pub Reports : List ℕ → Bool → List ℕ → Type 0
Reports bytes true text = (c : Configured) × (levels : List ℕ) × Accepts bytes c × AreLevels c levels × (text ≡ level_lines c.relations levels)
Reports bytes false text = (cause : Cause) × IsCause bytes cause × (text ≡ cause_lines cause)
