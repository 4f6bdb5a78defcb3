use Rattle.plain.specs.inside.Source.{snap_of}
use Rattle.plain.proofs.LevelSteps.{IsDone}
use Rattle.plain.proofs.levels.nodes_of.Given as goal

abbrev pub invariant-loop-level : goal.invariant-loop-level
invariant-loop-level l = IsDone (snap_of l.source) l.user l.level l.held.items
