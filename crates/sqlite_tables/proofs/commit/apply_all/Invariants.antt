use Rattle.std.proofs.Common.{◌≡◌, ◌≤◌, ◌+◌, ◌-◌, ◌*◌, length, take}
use Rattle.sqlite.specs.State.{HasCleanDisk}
use Rattle.sqlite.specs.Held.{state}
use Rattle.sqlite_tables.specs.Steps.{Alters, IsQuiet, Turns, after_events}
use Rattle.sqlite_tables.proofs.commit.apply_all.Given as goal

abbrev pub invariant-loop-at : goal.invariant-loop-at
invariant-loop-at g l = record {
  within : l.at ≤ length l.events;
  same : l.tx.conn.ghost_name ≡ l.fn.tx.conn.ghost_name;
  done : HasCleanDisk (state g.S.Store l.tx.conn.now) → Turns (Alters (after_events l.rev (take l.at l.events)) (256 * (l.rev - 1) + l.at)) (state g.S.Store l.fn.tx.conn.now) (state g.S.Store l.tx.conn.now);
  quiet : IsQuiet g.S.Store l.fn.tx.conn l.tx.conn;
}

abbrev pub decreases-loop-at : goal.decreases-loop-at
decreases-loop-at g l = length l.events - l.at
