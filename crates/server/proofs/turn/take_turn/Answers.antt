use Rattle.server.proofs.Turning.{turn_still, turn_refused_still}
use Rattle.server.proofs.turn.take_turn.Goals as goal

pub returns-in-Ok-clause-ok : goal.returns-in-Ok-clause-ok
returns-in-Ok-clause-ok g c =
    let taken = c.in-Ok.ensures.ok in
    let known = c.refresh-receipt.ensures in
    turn_still c.args.desk.now c.take_both-taken.new.desk c.refresh-receipt.new.self c.in-Ok.index c.in-Ok.hot taken.0 c.refresh-receipt.result taken.1 known.more known.same known.tells

pub returns-in-Err-clause-err : goal.returns-in-Err-clause-err
returns-in-Err-clause-err g c =
    let known = c.refresh-receipt.ensures in
    turn_refused_still g.T.Tables c.args.desk.now c.take_both-taken.new.desk c.refresh-receipt.new.self c.in-Err.why c.in-Err.ensures.err known.more known.same

pub returns-in-Ok-clause-done : goal.returns-in-Ok-clause-done
returns-in-Ok-clause-done g c =
    record { hand = c.take_both-taken.new.place; desk = c.take_both-taken.new.desk; parts = c.take_both-taken.ensures.done; shows = c.refresh-receipt.ensures.noted }

pub returns-in-Err-clause-done : goal.returns-in-Err-clause-done
returns-in-Err-clause-done g c =
    record { hand = c.take_both-taken.new.place; desk = c.take_both-taken.new.desk; parts = c.take_both-taken.ensures.done; shows = c.refresh-receipt.ensures.noted }
