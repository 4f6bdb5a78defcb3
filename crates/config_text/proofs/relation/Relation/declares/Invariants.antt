use Rattle.std.proofs.Common.{◌≡◌, drop}
use Rattle.std.specs.List.{list_any}
use Rattle.meaning.specs.Admits.{is_type, type_of}
use Rattle.config_text.proofs.relation.Relation.declares.Given as goal

abbrev pub invariant-loop-declared : goal.invariant-loop-declared
invariant-loop-declared l =
    list_any (is_type (type_of l.subject)) (drop l.declared-index l.self.types.items) ≡ list_any (is_type (type_of l.subject)) l.self.types.items
