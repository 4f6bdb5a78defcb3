use Rattle.std.proofs.Common.{◌≡◌, drop, map}
use Rattle.std.specs.List.{list_any}
use Rattle.meaning.specs.Admits.{is_relation}
use Rattle.config_text.specs.Forms.{defined_of}
use Rattle.config.proofs.causes.has_relation.Given as goal

abbrev pub invariant-loop-other : goal.invariant-loop-other
invariant-loop-other l = list_any (is_relation (record { namespace = l.namespace; relation = l.relation })) (map defined_of (drop l.other-index l.relations)) ≡ list_any (is_relation (record { namespace = l.namespace; relation = l.relation })) (map defined_of l.relations)
