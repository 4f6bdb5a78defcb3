-- The levels of a configuration's relations, in their order.
use Rattle.std.specs.Prelude.{◌≡◌, ℕ, ◌<◌, List, length, slice_index, slice_index_or}
use Rattle.meaning.specs.Levels.{IsLevel}
use Rattle.meaning.specs.Config.{Configured, Defined, Step}

pub record AreLevels (config : Configured) (levels : List ℕ) : Type 0 where
  pub long : length config.relations ≡ length levels
  pub each : (i : ℕ) (d : Defined) → i < length config.relations → slice_index_or config.relations i d ≡ d → IsLevel (Step config) d.rel (slice_index levels i)
