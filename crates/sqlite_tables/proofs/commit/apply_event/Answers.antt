use Rattle.std.proofs.Common.{arith}
use Rattle.sqlite.specs.Held.{state}
use Rattle.sqlite_tables.specs.Numbered.{span_rowid}
use Rattle.sqlite_tables.specs.Steps.{with_closed, with_span}
use Rattle.sqlite_tables.specs.Stored.{span_between}
use Rattle.sqlite_tables.specs.Caused.{CanApply, CanBegin}
use Rattle.sqlite_tables.proofs.Taking.{can_begin, can_begin_anew, can_close}
use Rattle.sqlite_tables.proofs.Whole.{caused_then, changes_then, changes_up, refuses}
use Rattle.sqlite_tables.proofs.commit.apply_event.Goals as goal

pub returns-in_ok-insert_span-in-Begins-clause-done : goal.returns-in_ok-insert_span-in-Begins-clause-done
returns-in_ok-insert_span-in-Begins-clause-done g c = rw c.in-Begins.is (c.in_ok-insert_span-in-Begins.ensures.done)

pub returns-in_ok-insert_span-in-BeginsAnew-clause-done : goal.returns-in_ok-insert_span-in-BeginsAnew-clause-done
returns-in_ok-insert_span-in-BeginsAnew-clause-done g c =
    let s = span_between c.args.event.now.tuple c.args.rev 0 in
    let id = span_rowid c.args.rev c.args.at in
    rw c.in-BeginsAnew.is
    (changes_then g.S.Store c.args.tx.now.conn c.close_span.new.tx.conn c.insert_span-in-BeginsAnew.new.tx.conn c.insert_span-in-BeginsAnew.ensures.quiet (with_closed s c.args.rev) (with_span s) 0 id id (omega arith) (omega arith)
    c.in_ok-close_span-in-BeginsAnew.ensures.done c.in_ok-insert_span-in-BeginsAnew.ensures.done)

pub returns-in_ok-close_span-in-Ends-clause-done : goal.returns-in_ok-close_span-in-Ends-clause-done
returns-in_ok-close_span-in-Ends-clause-done g c =
    let s = span_between c.args.event.now.tuple c.args.rev 0 in
    rw c.in-Ends.is (changes_up g.S.Store c.args.tx.now.conn c.close_span-in-Ends.new.tx.conn (with_closed s c.args.rev) 0 (span_rowid c.args.rev c.args.at) (omega arith) c.in_ok-close_span-in-Ends.ensures.done)

pub returns-in_err-insert_span-in-Begins-clause-caused : goal.returns-in_err-insert_span-in-Begins-clause-caused
returns-in_err-insert_span-in-Begins-clause-caused g c =
    refuses g.S.Store c.args.tx.now.conn c.insert_span.new.tx.conn c.from_residual.result c.in_err-insert_span-in-Begins.field-0.0 (CanApply c.args.event.now c.args.rev c.args.at) c.from_residual.ensures.1
    (λ inside clean other ready can. c.in_err-insert_span-in-Begins.ensures.caused inside clean other ready (can_begin c.args.event.now c.args.rev c.args.at c.requires.positive c.requires.small c.requires.few _ can))

pub returns-in_err-close_span-in-BeginsAnew-clause-caused : goal.returns-in_err-close_span-in-BeginsAnew-clause-caused
returns-in_err-close_span-in-BeginsAnew-clause-caused g c =
    refuses g.S.Store c.args.tx.now.conn c.close_span.new.tx.conn c.from_residual-in_err-close_span-in-BeginsAnew.result c.in_err-close_span-in-BeginsAnew.field-0.0 (CanApply c.args.event.now c.args.rev c.args.at)
    c.from_residual-in_err-close_span-in-BeginsAnew.ensures.1
    (λ inside clean other ready can. c.in_err-close_span-in-BeginsAnew.ensures.caused inside clean other ready (can_close c.args.event.now c.args.rev c.args.at c.requires.positive c.requires.small c.requires.few _ can))

pub returns-in_err-close_span-in-Ends-clause-caused : goal.returns-in_err-close_span-in-Ends-clause-caused
returns-in_err-close_span-in-Ends-clause-caused g c =
    refuses g.S.Store c.args.tx.now.conn c.close_span-in-Ends.new.tx.conn c.from_residual-in_err-close_span-in-Ends.result c.in_err-close_span-in-Ends.field-0.0 (CanApply c.args.event.now c.args.rev c.args.at)
    c.from_residual-in_err-close_span-in-Ends.ensures.1
    (λ inside clean other ready can. c.in_err-close_span-in-Ends.ensures.caused inside clean other ready (can_close c.args.event.now c.args.rev c.args.at c.requires.positive c.requires.small c.requires.few _ can))

pub returns-in_err-insert_span-in-BeginsAnew-clause-caused : goal.returns-in_err-insert_span-in-BeginsAnew-clause-caused
returns-in_err-insert_span-in-BeginsAnew-clause-caused g c =
    let tx = c.args.tx.now.conn in
    let mid = c.close_span.new.tx.conn in
    let last = c.insert_span-in-BeginsAnew.new.tx.conn in
    let e = c.in_err-insert_span-in-BeginsAnew.field-0.0 in
    let event = c.args.event.now in
    refuses g.S.Store tx last c.from_residual-in_err-insert_span-in-BeginsAnew.result e (CanApply event c.args.rev c.args.at) c.from_residual-in_err-insert_span-in-BeginsAnew.ensures.1
    (caused_then g.S.Store tx mid last e (CanApply event c.args.rev c.args.at) (CanBegin (span_between event.tuple c.args.rev 0) c.args.rev (span_rowid c.args.rev c.args.at)) c.close_span.ensures.quiet c.insert_span-in-BeginsAnew.ensures.quiet
    (λ clean.
    let did = c.in_ok-close_span-in-BeginsAnew.ensures.done clean in
    (did.goes_on, λ can. can_begin_anew event c.args.rev c.args.at c.requires.positive c.requires.small c.requires.few (state g.S.Store tx.now).now can (state g.S.Store mid.now).now did.does))
    c.in_err-insert_span-in-BeginsAnew.ensures.caused)
