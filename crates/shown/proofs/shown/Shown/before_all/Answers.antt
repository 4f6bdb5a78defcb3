use Rattle.std.proofs.Common.{sym, ap}
use Rattle.rows.specs.Retained.{newest}
use Rattle.shown.proofs.Taking.{sound_first}
use Rattle.shown.proofs.shown.Shown.before_all.Goals as goal

pub invariant_of-result : goal.invariant_of-result
invariant_of-result c = (sound_first c.empty.result 0 c.new.result.items (sym (ap newest c.empty.ensures)) c.new.ensures.items, tt)
