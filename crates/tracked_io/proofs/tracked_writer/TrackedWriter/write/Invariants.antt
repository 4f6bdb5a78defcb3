-- What was interrupted wrote nothing, and the writer has not failed yet.
use Rattle.std.proofs.Common.{◌≡◌, false}
use Rattle.std.specs.Io.KnownBytes.{Keeps}
use Rattle.tracked_io.specs.Wrote.{IsHeld}
use Rattle.tracked_io.proofs.tracked_writer.TrackedWriter.write.Given as goal

abbrev pub invariant-loop : goal.invariant-loop
invariant-loop g l = Keeps (g.W.Write.contents l.initial.self-inside.inner) (g.W.Write.contents l.self-inside.inner) × IsHeld (g.W.Write.contents l.self-inside.inner) l.self-inside.log.taken × (l.self-inside.log.taken ≡ l.initial.self-inside.log.taken) × (l.self-inside.failed ≡ l.initial.self-inside.failed) × (l.self-inside.flushed ≡ false)
