use Rattle.std.proofs.Common.{◌≡◌, drop}
use Rattle.std.specs.List.{list_any}
use Rattle.meaning.specs.Admits.{has_relation}
use Rattle.config_text.specs.Parts.{configured}
use Rattle.config.proofs.rewrites.some_has.Given as goal

abbrev pub invariant-loop-declared : goal.invariant-loop-declared
invariant-loop-declared l =
    list_any (λ t. has_relation (configured l.namespaces l.relations) (record { namespace = t.namespace; relation = l.relation })) (drop l.declared-index l.types)
    ≡ list_any (λ t. has_relation (configured l.namespaces l.relations) (record { namespace = t.namespace; relation = l.relation })) l.types
