use Rattle.std.proofs.Common.{[]}
use Rattle.sqlite.specs.Held.{state}
use Rattle.sqlite_tables.proofs.Fixed.Causes.{probe_failed, probe_same, probe_undone}
use Rattle.sqlite_tables.proofs.probe.ask.Goals as goal

pub returns-else-is_memory-clause-caused : goal.returns-else-is_memory-clause-caused
returns-else-is_memory-clause-caused g c = λ clean _ is.
    probe_failed (state g.S.Store c.args.conn.now) (state g.S.Store c.prepare.new.self) c.in-Err.error (c.is_memory.ensures.no c.if-is_memory.false) is (c.in-Err.ensures.err clean [])

pub returns-in_default-clause-undone : goal.returns-in_default-clause-undone
returns-in_default-clause-undone g c = λ clean is. probe_same (state g.S.Store c.args.conn.now) (state g.S.Store c.prepare.new.self) (c.in_default.ensures.ok clean).1 is

pub returns-else-is_memory-clause-undone : goal.returns-else-is_memory-clause-undone
returns-else-is_memory-clause-undone g c = λ clean is. probe_undone (state g.S.Store c.args.conn.now) (state g.S.Store c.prepare.new.self) c.in-Err.error (c.in-Err.ensures.err clean []) is

pub returns-then-is_memory-clause-undone : goal.returns-then-is_memory-clause-undone
returns-then-is_memory-clause-undone g c = λ clean is. probe_undone (state g.S.Store c.args.conn.now) (state g.S.Store c.prepare.new.self) c.in-Err.error (c.in-Err.ensures.err clean []) is
