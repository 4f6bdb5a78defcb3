use Rattle.std.proofs.Common.{◌≡◌, drop, map}
use Rattle.std.specs.List.{list_all}
use Rattle.config.specs.Valid.{types_used}
use Rattle.config_text.specs.Forms.{defined_of}
use Rattle.config.proofs.causes.types_used.Given as goal

abbrev pub invariant-loop-relation : goal.invariant-loop-relation
invariant-loop-relation l = list_all types_used (map defined_of (drop l.relation-index l.relations)) ≡ list_all types_used (map defined_of l.relations)
