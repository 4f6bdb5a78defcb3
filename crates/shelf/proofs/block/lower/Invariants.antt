use Rattle.std.proofs.Common.{◌≡◌, ◌-◌, ◌++◌, map, take, drop}
use Rattle.shelf.proofs.block.lower.Given as goal

abbrev pub invariant-loop-end : goal.invariant-loop-end
invariant-loop-end l = l.ends ≡ map (λ end. end - l.by) (take l.end-index l.initial.ends) ++ drop l.end-index l.initial.ends
