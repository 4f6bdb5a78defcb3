-- The parts so far are written, and the others not yet; the writer has not failed.
use Rattle.std.proofs.Common.{◌≡◌, drop}
use Rattle.std.specs.List.{flat_map}
use Rattle.tracked_io.proofs.Appending.{SoFar}
use Rattle.tracked_io.proofs.writing.put_parts.Given as goal

abbrev pub invariant-loop-part : goal.invariant-loop-part
invariant-loop-part g l = SoFar l.initial.writer.taken l.writer.taken (flat_map (λ part. part.now) l.parts) (flat_map (λ part. part.now) (drop l.part-index l.parts)) × (l.writer.failed ≡ l.initial.writer.failed)
