use Rattle.plain.specs.inside.Candidates.{HasNodes}
use Rattle.plain.proofs.levels.nodes_at.Given as goal

abbrev pub invariant-loop-object : goal.invariant-loop-object
invariant-loop-object l = HasNodes l.source l.objects l.object-index l.level l.nodes.items
