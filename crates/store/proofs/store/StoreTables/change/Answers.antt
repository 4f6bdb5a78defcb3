use Rattle.sqlite.specs.Held.{state}
use Rattle.store.specs.History.{HoldChanged}
use Rattle.store.proofs.Leaving.{leaves_more, lasts}
use Rattle.store.proofs.store.StoreTables.change.Goals as goal

pub returns-in-Ok-clause-left : goal.returns-in-Ok-clause-left
returns-in-Ok-clause-left g c = leaves_more g.S.Store c.args.self.now.conn c.change_history.new.conn c.args.change.now c.change_history.ensures.crash

pub returns-in-Ok-clause-lasts : goal.returns-in-Ok-clause-lasts
returns-in-Ok-clause-lasts g c = lasts (state g.S.Store c.args.self.now.conn) (state g.S.Store c.change_history.new.conn) (HoldChanged g.S.Store c.args.self.now.conn c.args.change.now) c.change_history.ensures.crash

pub returns-in-Err-Memory-clause-left : goal.returns-in-Err-Memory-clause-left
returns-in-Err-Memory-clause-left g c = leaves_more g.S.Store c.args.self.now.conn c.change_history.new.conn c.args.change.now c.change_history.ensures.crash

pub returns-in-Err-Memory-clause-lasts : goal.returns-in-Err-Memory-clause-lasts
returns-in-Err-Memory-clause-lasts g c = lasts (state g.S.Store c.args.self.now.conn) (state g.S.Store c.change_history.new.conn) (HoldChanged g.S.Store c.args.self.now.conn c.args.change.now) c.change_history.ensures.crash

pub returns-in-Err-Fault-clause-left : goal.returns-in-Err-Fault-clause-left
returns-in-Err-Fault-clause-left g c = leaves_more g.S.Store c.args.self.now.conn c.change_history.new.conn c.args.change.now c.change_history.ensures.crash

pub returns-in-Err-Fault-clause-lasts : goal.returns-in-Err-Fault-clause-lasts
returns-in-Err-Fault-clause-lasts g c = lasts (state g.S.Store c.args.self.now.conn) (state g.S.Store c.change_history.new.conn) (HoldChanged g.S.Store c.args.self.now.conn c.args.change.now) c.change_history.ensures.crash

pub returns-in-Ok-clause-done : goal.returns-in-Ok-clause-done
returns-in-Ok-clause-done g c = λ r keeps is. c.in-Ok.ensures.done r keeps is

pub returns-in-Err-Memory-clause-undone : goal.returns-in-Err-Memory-clause-undone
returns-in-Err-Memory-clause-undone g c = λ r keeps _. c.in-Err-Memory.ensures.undone r keeps
