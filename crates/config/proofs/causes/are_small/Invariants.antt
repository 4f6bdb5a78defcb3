use Rattle.std.proofs.Common.{◌≡◌, drop, map}
use Rattle.std.specs.List.{list_all}
use Rattle.config.specs.Valid.{is_small}
use Rattle.config_text.specs.Forms.{defined_of}
use Rattle.config.proofs.causes.are_small.Given as goal

abbrev pub invariant-loop-relation : goal.invariant-loop-relation
invariant-loop-relation l = list_all is_small (map defined_of (drop l.relation-index l.relations)) ≡ list_all is_small (map defined_of l.relations)
