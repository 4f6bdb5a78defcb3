use Rattle.std.proofs.Common.{◌≡◌, drop, nat_eq}
use Rattle.std.specs.List.{list_any}
use Rattle.std.specs.Cmp.Lexicographic.{pointwise}
use Rattle.config.proofs.causes.has_namespace.Given as goal

abbrev pub invariant-loop-other : goal.invariant-loop-other
invariant-loop-other l = list_any (pointwise nat_eq l.namespace) (drop l.other-index l.namespaces) ≡ list_any (pointwise nat_eq l.namespace) l.namespaces
