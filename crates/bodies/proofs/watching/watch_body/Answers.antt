use Rattle.bodies.specs.Watching.{WatchBodyCause}
use Rattle.bodies.proofs.Causes.{exit}
use Rattle.bodies.proofs.Cursors.{watch_unread, watch_unasked, cursor_unasked, watch_asked}
use Rattle.bodies.proofs.watching.watch_body.Goals as goal

pub returns-in_err-value-clause-err : goal.returns-in_err-value-clause-err
returns-in_err-value-clause-err c =
    exit (WatchBodyCause c.args.body.now) c.from_residual.result c.in_err-value.field-0.0 c.from_residual.ensures.1
    (watch_unread c.args.body.now _ c.in_err-value.ensures.err)

pub returns-in_err-namespaces-clause-err : goal.returns-in_err-namespaces-clause-err
returns-in_err-namespaces-clause-err c =
    exit (WatchBodyCause c.args.body.now) c.from_residual-in_err-namespaces.result c.in_err-namespaces.field-0.0 c.from_residual-in_err-namespaces.ensures.1
    (watch_unasked c.args.body.now _ c.in_ok-value.ensures.ok _ c.in_err-namespaces.ensures.err)

pub returns-in_err-cursor-clause-err : goal.returns-in_err-cursor-clause-err
returns-in_err-cursor-clause-err c =
    exit (WatchBodyCause c.args.body.now) c.from_residual-in_err-cursor.result c.in_err-cursor.field-0.0 c.from_residual-in_err-cursor.ensures.1
    (cursor_unasked c.args.body.now _ c.in_ok-value.ensures.ok _ _ c.in_ok-namespaces.ensures.ok _ c.in_err-cursor.ensures.err)

pub returns-clause-ok : goal.returns-clause-ok
returns-clause-ok c = watch_asked c.args.body.now _ c.in_ok-value.ensures.ok _ _ c.in_ok-namespaces.ensures.ok c.in_ok-cursor.cursor c.in_ok-cursor.ensures.ok
