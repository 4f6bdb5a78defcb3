-- Which configuration bytes describe, valid or not, and why bytes describe none.
use Rattle.std.specs.Prelude.{◌≡◌, ℕ, ◌<◌, ◌≤◌, List, Some, None, length, IsUtf8, IsTrue, All}
use Rattle.serde_json.specs.Data.{Data}
use Rattle.serde_json.specs.Read.{read}
use Rattle.names.specs.declared.limits.TheConstants.{MAX_CONFIG_LEN, MAX_REWRITE_DEPTH}
use Rattle.names.specs.declared.cause.Cause.{Cause}
use Rattle.names.specs.declared.cause.Cause.TheVariants.{Size, Json, Shape, Name}
use Rattle.names.specs.declared.refusal.Refusal.{Refusal}
use Rattle.names.specs.declared.refusal.Refusal.TheVariants.{ConfigRefused, Memory}
use Rattle.meaning.specs.Config.{Configured}
use Rattle.config_text.specs.Texts.{ConfigTexts}
use Rattle.config_text.specs.Shape.{config_read}
use Rattle.config_text.specs.Spelling.{Spells, SpellsNothing, AreNamed}
use Rattle.config_text.specs.Order.{IsOrdered}
use Rattle.config_text.specs.Size.{has_parts, form_depth}

-- the bytes are UTF-8, and `serde_json` reads them as the data
pub record Reads (bytes : List ℕ) (d : Data) : Type 0 where
  pub text : IsUtf8 bytes
  pub reads : read bytes ≡ Some d

-- the bytes have a configuration's form, and these are its texts
pub record Says (bytes : List ℕ) (texts : ConfigTexts) : Type 0 where
  pub data_read : Data
  pub reads : Reads bytes data_read
  pub shape : config_read data_read ≡ Some texts

-- the bytes are of this configuration, whether it is valid or not
pub record Describes (bytes : List ℕ) (c : Configured) : Type 0 where
  pub texts : ConfigTexts
  pub says : Says bytes texts
  pub spells : Spells texts c

-- why bytes are of no configuration: this cause applies, and none before it
abbrev pub IsReadingCause : List ℕ → Cause → Type 0
IsReadingCause bytes Size = MAX_CONFIG_LEN < length bytes
IsReadingCause bytes Json = (length bytes ≤ MAX_CONFIG_LEN) × ((d : Data) → ¬ (Reads bytes d))
IsReadingCause bytes Shape = (length bytes ≤ MAX_CONFIG_LEN) × ((d : Data) × Reads bytes d × (config_read d ≡ None))
IsReadingCause bytes Name = (length bytes ≤ MAX_CONFIG_LEN) × ((texts : ConfigTexts) × Says bytes texts × SpellsNothing texts)
IsReadingCause bytes cause = ⊥

abbrev pub ReadingRefused : List ℕ → Refusal → Type 0
ReadingRefused bytes (ConfigRefused cause) = IsReadingCause bytes cause
ReadingRefused bytes Memory = Unit {0}
ReadingRefused bytes _ = ⊥

-- its names are names, in order and each once; its rewrites have parts, and are no deeper than they may be
pub record IsWritable (c : Configured) : Type 0 where
  pub named : AreNamed c
  pub ordered : IsOrdered c
  pub parts : All (λ d. IsTrue (has_parts d.form)) c.relations
  pub shallow : All (λ d. form_depth d.form ≤ MAX_REWRITE_DEPTH) c.relations

-- the bytes are of the configuration, if that can be written
abbrev pub ReadsBack : Configured → List ℕ → Type 0
ReadsBack c bytes = IsWritable c → Describes bytes c
