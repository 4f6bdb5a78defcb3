use Rattle.plain.specs.inside.Candidates.{GainsNodes}
use Rattle.plain.proofs.levels.push_nodes.Given as goal

abbrev pub invariant-loop-i : goal.invariant-loop-i
invariant-loop-i l = GainsNodes l.source l.object l.i l.level l.initial.nodes.items l.nodes.items
