-- The parts of a configuration in the code.
use Rattle.std.specs.Prelude.{ℕ, List, map}
use Rattle.config_text.specs.declared.parts.Parts.{Parts}
use Rattle.config_text.specs.declared.relation.Relation.{Relation}
use Rattle.config_text.specs.Forms.{defined_of}
use Rattle.meaning.specs.Config.{Configured}

abbrev pub configured : List (List ℕ) → List Relation → Configured
configured namespaces relations = record { namespaces = namespaces; relations = map defined_of relations }

abbrev pub parts_of : Parts → Configured
parts_of p = configured p.namespaces.items p.relations.items
