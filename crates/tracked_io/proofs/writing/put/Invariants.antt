-- These bytes are written, and the rest not yet; the writer has not failed.
use Rattle.std.proofs.Common.{◌≡◌, length}
use Rattle.tracked_io.proofs.Appending.{SoFar}
use Rattle.tracked_io.proofs.writing.put.Given as goal

abbrev pub invariant-loop-rest : goal.invariant-loop-rest
invariant-loop-rest g l = SoFar l.initial.writer.taken l.writer.taken l.bytes l.rest × (l.writer.failed ≡ l.initial.writer.failed)

abbrev pub decreases-loop-rest : goal.decreases-loop-rest
decreases-loop-rest g l = length l.rest
