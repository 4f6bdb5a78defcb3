use Rattle.names.specs.declared.refusal.Refusal.{Refusal}
use Rattle.desk.proofs.Accepting.{refused_exit}
use Rattle.server.specs.Turning.{both, index_alone}
use Rattle.server.specs.Turns.{TurnRefused, index_refused, hot_refused}
use Rattle.server.proofs.turn.take_both.Goals as goal

pub returns-in_err-index-clause-err : goal.returns-in_err-index-clause-err
returns-in_err-index-clause-err g c =
    refused_exit (λ (why : Refusal). TurnRefused g.T.Tables c.args.desk.now why c.catch_up.new.self) c.from_residual.result c.in_err-index.field-0.0 c.from_residual.ensures.1
    (index_refused c.in_err-index.ensures.err)

pub returns-in_err-hot-clause-err : goal.returns-in_err-hot-clause-err
returns-in_err-hot-clause-err g c =
    let index = c.in_ok-index.index in
    refused_exit (λ (why : Refusal). TurnRefused g.T.Tables c.args.desk.now why c.catch_up-2.new.self) c.from_residual-in_err-hot.result c.in_err-hot.field-0.0 c.from_residual-in_err-hot.ensures.1
    (hot_refused c.catch_up.new.self index.value index.receipt c.in_ok-index.ensures.ok c.in_err-hot.ensures.err)

pub returns-clause-ok : goal.returns-clause-ok
returns-clause-ok g c =
    let index = c.in_ok-index.index in
    (c.in_ok-hot.hot.receipt, record { between = c.catch_up.new.self; told = index.receipt; index_takes = c.in_ok-index.ensures.ok; hot_takes = c.in_ok-hot.ensures.ok })

pub returns-in_err-index-clause-done : goal.returns-in_err-index-clause-done
returns-in_err-index-clause-done g c = index_alone c.in_err-index.field-0.0 c.in_err-index.ensures.err c.catch_up.ensures.noted

pub returns-in_err-hot-clause-done : goal.returns-in_err-hot-clause-done
returns-in_err-hot-clause-done g c =
    let index = c.in_ok-index.index in
    both c.catch_up.new.place c.catch_up.new.self index.value index.receipt c.in_ok-index.ensures.ok c.catch_up.ensures.noted c.catch_up-2.ensures.noted

pub returns-clause-done : goal.returns-clause-done
returns-clause-done g c =
    let index = c.in_ok-index.index in
    both c.catch_up.new.place c.catch_up.new.self index.value index.receipt c.in_ok-index.ensures.ok c.catch_up.ensures.noted c.catch_up-2.ensures.noted
