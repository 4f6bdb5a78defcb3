use Rattle.std.proofs.Common.{inl}
use Rattle.std.proofs.lemmas.Result.{err_from_is_err_and}
use Rattle.http_api.specs.inside.Held.{held}
use Rattle.http_api.proofs.Pausing.{read_on_more, ended_later, ended_refused}
use Rattle.http_api.proofs.receive.receive_head.Goals as goal

pub returns-in-Refused-clause-err : goal.returns-in-Refused-clause-err
returns-in-Refused-clause-err g c =
    let at = c.loop-heading in
    let asked = rw c.bytes.ensures at c.in-Refused.ensures.refused in
    ended_later _ _ _ _ _ _ at.invariant.0
    (ended_refused _ (held at.inbox, at.reader, at.writer) _ _ _ at.invariant.0.reader_works asked (inl at.invariant.1) c.refuse.ensures)

pub returns-in_err-read_more-clause-err : goal.returns-in_err-read_more-clause-err
returns-in_err-read_more-clause-err g c =
    let p = err_from_is_err_and c.from_residual.result c.from_residual.ensures.1 in
    rw (p.1, p.2) (ended_later _ _ _ _ _ _ c.loop-heading.invariant.0 c.in_err-read_more.ensures.err)

pub loop-heading-preserved : goal.loop-heading-preserved
loop-heading-preserved g c = (read_on_more _ _ _ _ c.loop-heading.invariant.0 c.in_ok-read_more.ensures.ok, c.in_ok-read_more.ensures.most)
