use Rattle.std.proofs.Common.{take}
use Rattle.group_index.proofs.Among.{Meet}
use Rattle.group_index.proofs.meeting.some_named.Given as goal

-- none of those that were gone over is among the others
abbrev pub invariant-loop-id : goal.invariant-loop-id
invariant-loop-id l = Meet l.names (take l.id-index l.ids) l.other_names l.other_ids → ⊥
