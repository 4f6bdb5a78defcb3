-- More was read, no more than may wait, and nothing written.
use Rattle.std.proofs.Common.{◌-◌, ◌^◌}
use Rattle.http_api.specs.inside.Held.{held}
use Rattle.http_api.specs.inside.Receiving.{ReadOn, IsFewFor}
use Rattle.http_api.proofs.receive.receive_body.Given as goal

abbrev pub invariant-loop-reader : goal.invariant-loop-reader
invariant-loop-reader g l = ReadOn g.R.Read.remaining (held l.fn.inbox, l.fn.reader, l.fn.writer) (held l.inbox, l.reader, l.writer)
    × IsFewFor l.fn.heading (held l.inbox)

abbrev pub decreases-loop-reader : goal.decreases-loop-reader
decreases-loop-reader g l = (2 ^ 64 - 1) - l.reader.turns
