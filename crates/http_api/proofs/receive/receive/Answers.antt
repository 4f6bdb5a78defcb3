use Rattle.std.proofs.lemmas.Result.{err_from_is_err_and}
use Rattle.http_api.proofs.Pausing.{read_on_more, ended_later}
use Rattle.http_api.proofs.receive.receive.Goals as goal

pub returns-in_err-receive_body-clause-err : goal.returns-in_err-receive_body-clause-err
returns-in_err-receive_body-clause-err g c =
    let p = err_from_is_err_and c.from_residual-in_err-receive_body.result c.from_residual-in_err-receive_body.ensures.1 in
    rw (p.1, p.2) (ended_later _ _ _ _ _ _ c.in_ok-heading.ensures.ok c.in_err-receive_body.ensures.err)

pub returns-clause-ok : goal.returns-clause-ok
returns-clause-ok g c = read_on_more _ _ _ _ c.in_ok-heading.ensures.ok c.in_ok-receive_body.ensures.ok
