use Rattle.std.proofs.Common.{◌≡◌, drop, map}
use Rattle.std.specs.List.{list_all}
use Rattle.config.specs.Valid.{types_stand}
use Rattle.config_text.specs.Parts.{configured}
use Rattle.config_text.specs.Forms.{defined_of}
use Rattle.config.proofs.causes.types_stand.Given as goal

abbrev pub invariant-loop-relation : goal.invariant-loop-relation
invariant-loop-relation l = list_all (types_stand (configured l.namespaces l.all)) (map defined_of (drop l.relation-index l.relations)) ≡ list_all (types_stand (configured l.namespaces l.all)) (map defined_of l.relations)
