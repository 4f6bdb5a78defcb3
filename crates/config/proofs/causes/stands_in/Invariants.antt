use Rattle.std.proofs.Common.{◌≡◌, drop}
use Rattle.std.specs.List.{list_any}
use Rattle.meaning.specs.Admits.{is_type}
use Rattle.config.proofs.causes.stands_in.Given as goal

abbrev pub invariant-loop-other : goal.invariant-loop-other
invariant-loop-other l = list_any (is_type l.declared) (drop l.other-index l.types) ≡ list_any (is_type l.declared) l.types
