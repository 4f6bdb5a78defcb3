-- What was read is answered so far, and nothing failed.
use Rattle.std.proofs.Common.{ℕ, ◌≡◌, ◌-◌, ◌^◌, List, false}
use Rattle.tracked_io.specs.Waiting.{Waited}
use Rattle.lines.specs.Served.{Paused}
use Rattle.std.specs.Io.KnownBytes.{Consumes}
use Rattle.lines.specs.Going.{Going}
use Rattle.lines.proofs.served.lines.Given as goal

abbrev pub invariant-loop-chunk : goal.invariant-loop-chunk
invariant-loop-chunk g l = ((input : List ℕ) × Consumes (g.R.Read.remaining l.fn.reader.inner) (g.R.Read.remaining l.reader.inner) input
    × Going g.A.Answers.step l.fn.answers l.fn.writer.taken input l.line l.answers l.writer.taken
    × Waited (λ before holds. (t : g.row.A.Denot) × Paused g.A.Answers.step l.fn.answers l.fn.writer.taken before t holds) l.fn.reader.reads l.reader.reads input)
    × (l.reader.failed ≡ false) × (l.writer.failed ≡ false)

abbrev pub decreases-loop-chunk : goal.decreases-loop-chunk
decreases-loop-chunk g l = (2 ^ 64 - 1) - l.reader.turns
