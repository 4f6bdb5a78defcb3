-- So many requests were answered, nothing failed, and no more waits than a head may have.
use Rattle.std.proofs.Common.{◌<◌, ◌≤◌, ◌-◌, length}
use Rattle.http_api.specs.Heads.{max_head}
use Rattle.http_api.specs.inside.Held.{held}
use Rattle.http_api.specs.inside.Going.{Going}
use Rattle.http_api.proofs.connection.serve_on.Given as goal

abbrev pub invariant-loop-heading : goal.invariant-loop-heading
invariant-loop-heading g l =
    Going g.A.Answers.step g.R.Read.remaining (l.fn.answers, l.fn.reader, l.fn.writer) l.number (held l.inbox) (l.answers, l.reader, l.writer)
    × (l.number < 18446744073709551615)
    × (length (held l.inbox) ≤ max_head)

abbrev pub decreases-loop-heading : goal.decreases-loop-heading
decreases-loop-heading g l = 18446744073709551615 - l.number
