use Rattle.std.proofs.Common.{◌≡◌, true, false}
use Rattle.decide.specs.inside.Ending.{IsUnfinished}
use Rattle.decide.specs.inside.Asked.{IsAsking}
use Rattle.decide.specs.inside.Searches.{Grew}
use Rattle.decide.proofs.Found.{IsNoneBefore}
use Rattle.decide.proofs.rewrites.some_asked.Given as goal

-- none before
abbrev pub invariant-loop-node : goal.invariant-loop-node
invariant-loop-node l =
    IsAsking l.facts l.search l.asking
    × Grew l.fn.search l.search
    × (l.later ≡ false → IsNoneBefore l.facts l.asking l.search l.nodes l.node-index)
    × (l.later ≡ true → IsUnfinished l.search l.asking.level)
