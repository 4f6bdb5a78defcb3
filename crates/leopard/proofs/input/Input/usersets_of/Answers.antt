use Rattle.std.proofs.lemmas.Result.{IfOk-weaker}
use Rattle.leopard.proofs.Inputs.{sets_of}
use Rattle.leopard.proofs.input.Input.usersets_of.Goals as goal

pub returns : goal.returns
returns c = IfOk-weaker c.usersets_in.result _ _ (λ v are. sets_of c.args.self.now c.args.node.now c.tuples_of.result.now v.items c.tuples_of.ensures are) c.usersets_in.ensures
