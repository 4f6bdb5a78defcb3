-- The versions of a tuple as they stand in memory.
use Rattle.std.specs.Prelude.{List, [], ◌∷◌}
use Rattle.versions.specs.declared.version.Version.{Version}
use Rattle.versions.specs.declared.version.Kept.{Kept}
use Rattle.versions.specs.declared.version.Kept.TheVariants as kept

-- the versions that are kept, oldest first
abbrev pub kept_versions : Kept → List Version
kept_versions kept.None = []
kept_versions (kept.One version) = version ∷ []
kept_versions (kept.Many versions) = versions.value.items
