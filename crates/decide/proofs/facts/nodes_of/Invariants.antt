use Rattle.std.proofs.Common.{◌≡◌, map, take}
use Rattle.decide.specs.inside.Reads.{node_with}
use Rattle.decide.proofs.facts.nodes_of.Given as goal

abbrev pub invariant-loop-object : goal.invariant-loop-object
invariant-loop-object l = l.nodes.items ≡ map (node_with l.relation) (take l.object-index l.objects)
