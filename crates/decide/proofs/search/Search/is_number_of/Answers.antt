use Rattle.std.proofs.Common.{sym, arith}
use Rattle.decide.proofs.search.Search.is_number_of.Goals as goal

pub returns-then-number-len : goal.returns-then-number-len
returns-then-number-len c = λ yes. (c.index.result.now, (omega (arith, c.if-number-len.true), sym c.index.ensures), c.is_node.ensures yes)
