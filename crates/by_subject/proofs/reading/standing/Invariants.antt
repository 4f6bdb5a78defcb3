use Rattle.std.proofs.Common.{◌≡◌, ◌++◌, filter, map}
use Rattle.by_subject.specs.inside.Standing.{tuple_with, stands}
use Rattle.by_subject.proofs.reading.standing.Given as goal

abbrev pub invariant-loop-node : goal.invariant-loop-node
invariant-loop-node l =
    l.tuples.items ++ filter (stands l.fn.asked l.fn.view.tuples) (map (tuple_with l.fn.subject) l.node-iterator.rest.items)
    ≡ filter (stands l.fn.asked l.fn.view.tuples) (map (tuple_with l.fn.subject) l.fn.nodes.items)
