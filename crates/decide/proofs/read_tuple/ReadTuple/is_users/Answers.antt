use Rattle.std.proofs.Common.{sym, ◌∙◌}
use Rattle.decide.proofs.ReadTuples.{of_user, of_another}
use Rattle.decide.proofs.read_tuple.ReadTuple.is_users.Goals as goal

pub returns : goal.returns
returns c = of_another c.args.node.now c.args.user.now c.args.self.now (sym c.is_of.ensures ∙ c.if-is_of.false)

pub returns-then-is_of : goal.returns-then-is_of
returns-then-is_of c = of_user c.args.node.now c.args.user.now c.args.self.now c.is_one.result (sym c.is_of.ensures ∙ c.if-is_of.true) c.is_one.ensures
