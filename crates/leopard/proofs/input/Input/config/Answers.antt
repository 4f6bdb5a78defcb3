use Rattle.std.proofs.Common.{subst}
use Rattle.rows.specs.Retained.{AreAdmitted}
use Rattle.leopard.proofs.Inputs.{admitted_are}
use Rattle.leopard.proofs.input.Input.config.Goals as goal

pub returns-clause-admitted : goal.returns-clause-admitted
returns-clause-admitted c = subst AreAdmitted c.self.view_is (admitted_are c.self.inside.config c.self.inside.tuples.items c.self.invariant)
