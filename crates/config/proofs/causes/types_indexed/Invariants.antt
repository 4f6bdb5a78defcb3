use Rattle.std.proofs.Common.{◌≡◌, drop}
use Rattle.std.specs.List.{list_all}
use Rattle.config.specs.Valid.{type_indexed}
use Rattle.config_text.specs.Parts.{configured}
use Rattle.config.proofs.causes.types_indexed.Given as goal

abbrev pub invariant-loop-declared : goal.invariant-loop-declared
invariant-loop-declared l = list_all (λ t. type_indexed (configured l.namespaces l.relations) t.namespace t.relation) (drop l.declared-index l.types) ≡ list_all (λ t. type_indexed (configured l.namespaces l.relations) t.namespace t.relation) l.types
