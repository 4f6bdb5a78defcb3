use Rattle.sqlite.specs.Held.{state}
use Rattle.store.proofs.Leaving.{leaves_alone, lasts}
use Rattle.store.proofs.store.StoreTables.load.Goals as goal

pub returns-in-Ok-clause-left : goal.returns-in-Ok-clause-left
returns-in-Ok-clause-left g c = leaves_alone g.S.Store c.args.self.now.conn c.load_history.new.conn c.load_history.ensures.quiet

pub returns-in-Ok-clause-lasts : goal.returns-in-Ok-clause-lasts
returns-in-Ok-clause-lasts g c = lasts (state g.S.Store c.args.self.now.conn) (state g.S.Store c.load_history.new.conn) (λ _. ⊥) c.load_history.ensures.quiet

pub returns-in-Err-Memory-clause-left : goal.returns-in-Err-Memory-clause-left
returns-in-Err-Memory-clause-left g c = leaves_alone g.S.Store c.args.self.now.conn c.load_history.new.conn c.load_history.ensures.quiet

pub returns-in-Err-Memory-clause-lasts : goal.returns-in-Err-Memory-clause-lasts
returns-in-Err-Memory-clause-lasts g c = lasts (state g.S.Store c.args.self.now.conn) (state g.S.Store c.load_history.new.conn) (λ _. ⊥) c.load_history.ensures.quiet

pub returns-in-Err-Fault-clause-left : goal.returns-in-Err-Fault-clause-left
returns-in-Err-Fault-clause-left g c = leaves_alone g.S.Store c.args.self.now.conn c.load_history.new.conn c.load_history.ensures.quiet

pub returns-in-Err-Fault-clause-lasts : goal.returns-in-Err-Fault-clause-lasts
returns-in-Err-Fault-clause-lasts g c = lasts (state g.S.Store c.args.self.now.conn) (state g.S.Store c.load_history.new.conn) (λ _. ⊥) c.load_history.ensures.quiet
