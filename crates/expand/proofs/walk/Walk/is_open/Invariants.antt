use Rattle.std.proofs.Common.{◌≡◌, drop}
use Rattle.expand.specs.Tree.{is_among}
use Rattle.expand.proofs.walk.Walk.is_open.Given as goal

-- what is left of the path decides
abbrev pub invariant-loop-open : goal.invariant-loop-open
invariant-loop-open l = is_among (drop l.open-index l.open-items) l.node ≡ is_among l.open-items l.node
