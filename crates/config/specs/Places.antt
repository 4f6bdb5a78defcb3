-- Where a relation stands among a configuration's.
use Rattle.std.specs.Prelude.{◌≡◌, ℕ, ◌<◌, length, slice_index_or}
use Rattle.names.specs.declared.relation.RelationName.{RelationName}
use Rattle.meaning.specs.Config.{Configured, Defined, Defines}

-- the relation stands at this place, and each definition of it is the one there
pub record StandsAt (config : Configured) (r : RelationName) (i : ℕ) : Type 0 where
  pub defined : Defined
  pub within : i < length config.relations
  pub there : slice_index_or config.relations i defined ≡ defined
  pub rel : defined.rel ≡ r
  pub only : (d : Defined) → Defines config r d → d ≡ defined
