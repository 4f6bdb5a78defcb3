use Rattle.std.proofs.Common.{arith}
use Rattle.bodies.proofs.Expressions.{no_exclusion}
use Rattle.bodies.proofs.exprs.exclusion_of.Goals as goal

pub returns-then-len-ne2-clause-err : goal.returns-then-len-ne2-clause-err
returns-then-len-ne2-clause-err c = no_exclusion c.args.parts.items (λ two. c.if-len-ne2.true (grind (arith, c.len.ensures, c.args.parts.ok, two)))
