use Rattle.std.proofs.Common.{◌≡◌, map, take}
use Rattle.config_text.specs.Forms.{defined_of}
use Rattle.config.proofs.config.copies.Given as goal

abbrev pub invariant-loop-relation : goal.invariant-loop-relation
invariant-loop-relation l = map defined_of l.copies.items ≡ map defined_of (take l.relation-index l.relations)
