use Rattle.std.proofs.Common.{◌≡◌, drop, map}
use Rattle.std.specs.List.{list_any}
use Rattle.meaning.specs.Admits.{is_relation}
use Rattle.config.specs.Forms.{defined_of}
use Rattle.plain.proofs.source.has_relation.Given as goal

abbrev pub invariant-loop-relation : goal.invariant-loop-relation
invariant-loop-relation l =
    list_any (is_relation (record { namespace = l.namespace; relation = l.name })) (map defined_of (drop l.relation-index l.relations))
    ≡ list_any (is_relation (record { namespace = l.namespace; relation = l.name })) (map defined_of l.relations)
