-- A loop that has come so far goes on after the bytes so far; the writer has not failed.
use Rattle.std.proofs.Common.{◌≡◌, ℕ, ◌++◌, List, take}
use Rattle.lines.specs.Going.{Going}
use Rattle.lines.proofs.feed.feed_all.Given as goal
use Rattle.tracked_io.specs.Wrote.{Taken}

abbrev pub invariant-loop-b : goal.invariant-loop-b
invariant-loop-b g l = ((s : _) (held : Taken) (input : List ℕ) → Going g.A.Answers.step s held input l.initial.line l.initial.answers l.initial.writer.taken
    → Going g.A.Answers.step s held (input ++ take l.b-index l.bytes) l.line l.answers l.writer.taken) × (l.writer.failed ≡ l.initial.writer.failed)
