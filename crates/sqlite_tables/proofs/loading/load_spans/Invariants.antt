use Rattle.std.proofs.Common.{◌≡◌, false, map}
use Rattle.sqlite_tables.specs.Reading.{IsClean, HasFormat, LeavesAsRead}
use Rattle.sqlite_tables.specs.Stored.{span_in}
use Rattle.sqlite_tables.proofs.Streaming.{HasRead}
use Rattle.sqlite_tables.proofs.loading.load_spans.Given as goal

abbrev pub invariant-rows : goal.invariant-rows
invariant-rows g l = record {
  same_reference : l.rows.conn.ghost_name ≡ l.initial.rows.conn.ghost_name;
  mode : l.fn.conn.in_transaction ≡ false → l.rows.conn.now.in_transaction ≡ false;
  crash : LeavesAsRead g.S.Store l.fn.conn l.rows.conn.now;
  read : IsClean g.S.Store l.rows.conn.now → HasFormat g.S.Store l.fn.conn → HasRead g.S.Store l.fn.conn l.rows.conn.now (map span_in l.spans.items);
}
