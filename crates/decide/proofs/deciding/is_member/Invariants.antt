use Rattle.std.proofs.Common.{◌<◌, ◌^◌, ◌-◌, ℕ, length, None}
use Rattle.names.specs.declared.node.Node.{Node}
use Rattle.decide.specs.inside.Searches.{IsNumberOf}
use Rattle.decide.specs.inside.Running.{IsRunning}
use Rattle.decide.specs.inside.Reading.{AreRead}
use Rattle.decide.specs.inside.Ending.{progress}
use Rattle.decide.proofs.deciding.is_member.Given as goal

abbrev pub invariant-rounds : goal.invariant-rounds
invariant-rounds g l =
    IsRunning l.facts l.user l.search None
    × (l.root < length l.search.opened.items)
    × ((k : ℕ) (n : Node) → IsNumberOf l.fn.search l.root n k → IsNumberOf l.search l.root n k)
    × g.O.Oracle.tells l.oracle l.facts
    × AreRead l.facts l.reads

-- how many nodes can still be opened, or be given the user
abbrev pub decreases-rounds : goal.decreases-rounds
decreases-rounds g l = 2 ^ 65 - progress l.search
