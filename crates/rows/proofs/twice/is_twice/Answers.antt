use Rattle.std.proofs.Common.{sym}
use Rattle.rows.proofs.Repeats.{rising_once}
use Rattle.rows.proofs.twice.is_twice.Goals as goal

pub returns-else-not-are_rising : goal.returns-else-not-are_rising
returns-else-not-are_rising c = rw c.if-not-are_rising.false (sym (rising_once _ (c.if-not-are_rising.ensures)))
