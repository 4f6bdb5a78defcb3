-- More was read, no more than a head may have, and nothing written.
use Rattle.std.proofs.Common.{◌-◌, ◌^◌, ◌≤◌, length}
use Rattle.http_api.specs.Heads.{max_head}
use Rattle.http_api.specs.inside.Held.{held}
use Rattle.http_api.specs.inside.Receiving.{ReadOn}
use Rattle.http_api.proofs.receive.receive_head.Given as goal

abbrev pub invariant-loop-heading : goal.invariant-loop-heading
invariant-loop-heading g l = ReadOn g.R.Read.remaining (held l.fn.inbox, l.fn.reader, l.fn.writer) (held l.inbox, l.reader, l.writer)
    × (length (held l.inbox) ≤ max_head)

abbrev pub decreases-loop-heading : goal.decreases-loop-heading
decreases-loop-heading g l = (2 ^ 64 - 1) - l.reader.turns
