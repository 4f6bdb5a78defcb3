-- Which bytes are accepted as a configuration, and why others are refused.
use Rattle.std.specs.Prelude.{◌≡◌, ℕ, ◌≤◌, List, Some, None, length}
use Rattle.names.specs.declared.limits.TheConstants.{MAX_CONFIG_LEN}
use Rattle.names.specs.declared.cause.Cause.{Cause}
use Rattle.names.specs.declared.cause.Cause.TheVariants.{Size, Json, Shape, Name, Cycle}
use Rattle.names.specs.declared.refusal.Refusal.{Refusal}
use Rattle.names.specs.declared.refusal.Refusal.TheVariants.{ConfigRefused, Memory}
use Rattle.meaning.specs.Config.{Configured}
use Rattle.config_text.specs.Reading.{Describes, IsReadingCause}
use Rattle.config.specs.Valid.{IsValid, cause_of}
use Rattle.config.specs.Cycles.{IsCertificate}

-- the bytes are of this valid configuration
pub record Accepts (bytes : List ℕ) (c : Configured) : Type 0 where
  pub size : length bytes ≤ MAX_CONFIG_LEN
  pub describes : Describes bytes c
  pub valid : IsValid c

-- this cause applies, and none before it
abbrev pub IsCause : List ℕ → Cause → Type 0
IsCause bytes Size = IsReadingCause bytes Size
IsCause bytes Json = IsReadingCause bytes Json
IsCause bytes Shape = IsReadingCause bytes Shape
IsCause bytes Name = IsReadingCause bytes Name
IsCause bytes (Cycle steps) = (length bytes ≤ MAX_CONFIG_LEN) × ((c : Configured) × Describes bytes c × (cause_of c ≡ None) × IsCertificate c steps)
IsCause bytes cause = (length bytes ≤ MAX_CONFIG_LEN) × ((c : Configured) × Describes bytes c × (cause_of c ≡ Some cause))

-- why a configuration's bytes are refused
abbrev pub ConfigCause : List ℕ → Refusal → Type 0
ConfigCause bytes (ConfigRefused cause) = IsCause bytes cause
ConfigCause bytes Memory = Unit {0}
ConfigCause bytes _ = ⊥
