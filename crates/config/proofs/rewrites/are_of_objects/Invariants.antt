use Rattle.std.proofs.Common.{◌≡◌, drop}
use Rattle.std.specs.List.{list_all}
use Rattle.config.specs.Valid.{names_none}
use Rattle.config.proofs.rewrites.are_of_objects.Given as goal

abbrev pub invariant-loop-declared : goal.invariant-loop-declared
invariant-loop-declared l = list_all (λ t. names_none t.relation) (drop l.declared-index l.types) ≡ list_all (λ t. names_none t.relation) l.types
