use Rattle.std.proofs.Common.{◌≡◌, drop}
use Rattle.std.specs.List.{list_all}
use Rattle.config.specs.Valid.{has_type}
use Rattle.config_text.specs.Parts.{configured}
use Rattle.config.proofs.causes.have_types.Given as goal

abbrev pub invariant-loop-declared : goal.invariant-loop-declared
invariant-loop-declared l = list_all (λ t. has_type (configured l.namespaces l.relations) t.namespace t.relation) (drop l.declared-index l.types) ≡ list_all (λ t. has_type (configured l.namespaces l.relations) t.namespace t.relation) l.types
