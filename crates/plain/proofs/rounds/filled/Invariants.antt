use Rattle.std.proofs.Common.{◌+◌, ◌*◌}
use Rattle.std.specs.Prelude.{vec_len, min}
use Rattle.meaning.specs.Membership.{RelationGives}
use Rattle.plain.specs.inside.Source.{snap_of}
use Rattle.plain.proofs.Fill.{IsFilling}
use Rattle.plain.proofs.rounds.filled.Given as goal

abbrev pub invariant-loop-i : goal.invariant-loop-i
invariant-loop-i l = IsFilling (RelationGives (snap_of l.source) l.user) l.nodes l.lower l.waiting.items l.held.items

-- a node fewer waits, or the next round begins
abbrev pub decreases-loop-i : goal.decreases-loop-i
decreases-loop-i l = 2 * vec_len l.waiting + min l.from 1
