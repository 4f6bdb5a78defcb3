-- A read that was interrupted consumes nothing, and the reader has not failed yet.
use Rattle.std.proofs.Common.{◌≡◌, ◌≤◌, ◌-◌, ◌^◌}
use Rattle.std.specs.Io.KnownBytes.{Keeps}
use Rattle.tracked_io.proofs.tracked_reader.TrackedReader.try_to_read.Given as goal

abbrev pub invariant-loop-self : goal.invariant-loop-self
invariant-loop-self g l = Keeps (g.R.Read.remaining l.initial.self-inside.inner) (g.R.Read.remaining l.self-inside.inner) × (l.self-inside.failed ≡ l.initial.self-inside.failed) × (l.initial.self-inside.turns ≤ l.self-inside.turns) × (l.self-inside.log.reads ≡ l.initial.self-inside.log.reads)

abbrev pub decreases-loop-self : goal.decreases-loop-self
decreases-loop-self g l = (2 ^ 64 - 1) - l.self-inside.turns
