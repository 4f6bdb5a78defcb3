use Rattle.std.proofs.Common.{◌≡◌, true, false, map}
use Rattle.decide.specs.inside.Ending.{IsUnfinished}
use Rattle.decide.specs.inside.Asked.{IsAsking}
use Rattle.decide.specs.inside.Searches.{Grew}
use Rattle.decide.specs.inside.Reads.{node_with}
use Rattle.decide.proofs.Found.{IsNoneBefore}
use Rattle.decide.proofs.rewrites.some_of.Given as goal

-- none before
abbrev pub invariant-loop-object : goal.invariant-loop-object
invariant-loop-object l =
    IsAsking l.facts l.search l.asking
    × Grew l.fn.search l.search
    × (l.later ≡ false → IsNoneBefore l.facts l.asking l.search (map (node_with l.relation) l.objects) l.object-index)
    × (l.later ≡ true → IsUnfinished l.search l.asking.level)
