-- What holds of each configuration in memory.
use Rattle.std.specs.Prelude.{ℕ, ◌<◌, ◌≤◌, ◌^◌, List, All, IsTrue, length}
use Rattle.names.specs.declared.limits.TheConstants.{MAX_CONFIG_LEN}
use Rattle.meaning.specs.Config.{Configured}
use Rattle.config_text.specs.Canonical.{config_text}
use Rattle.config_text.specs.Order.{IsOrdered}
use Rattle.config_text.specs.Size.{has_parts}
use Rattle.config.specs.Levels.{AreLevels}
use Rattle.config.specs.Valid.{IsValid}

-- the canonical text can be read again
abbrev pub IsShort : Configured → Type 0
IsShort c = length (config_text c) ≤ MAX_CONFIG_LEN

-- a valid configuration with its levels, whose canonical text can be read again
pub record IsConfig (c : Configured) (levels_are : List ℕ) : Type 0 where
  pub valid : IsValid c
  pub ordered : IsOrdered c
  pub parts : All (λ d. IsTrue (has_parts d.form)) c.relations
  pub short : IsShort c
  pub levels : AreLevels c levels_are
  pub small : All (λ l. l < 2 ^ 32) levels_are
