use Rattle.std.proofs.Common.{sym, ◌∙◌}
use Rattle.tables.proofs.Absent.{puts_absent}
use Rattle.tables.proofs.puts.puts_of.Goals as goal

pub returns-else-has_touch-clause-absent : goal.returns-else-has_touch-clause-absent
returns-else-has_touch-clause-absent c = λ is r events. puts_absent c.args.ops.now r events (sym c.has_touch.ensures ∙ c.if-has_touch.false)
