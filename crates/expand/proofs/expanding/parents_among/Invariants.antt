use Rattle.std.proofs.Common.{◌≡◌, ◌++◌, drop, map}
use Rattle.std.specs.List.{filter_map}
use Rattle.expand.specs.Tree.{parent}
use Rattle.expand.proofs.expanding.parents_among.Given as goal

-- the parents so far, and those of the tuples that are left, are all
abbrev pub invariant-loop-tuple : goal.invariant-loop-tuple
invariant-loop-tuple l =
    l.parents.items ++ filter_map (parent l.source.view.now.config l.relation) (map (λ t. t.subject) (drop l.tuple-index l.tuples))
    ≡ filter_map (parent l.source.view.now.config l.relation) (map (λ t. t.subject) l.tuples)
