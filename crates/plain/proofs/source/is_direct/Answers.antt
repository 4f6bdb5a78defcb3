use Rattle.std.proofs.Common.{rules}
use Rattle.std.specs.Prelude.{◌↔◌, IsTrue, Any}
use Rattle.plain.specs.inside.Source.{Grants}
use Rattle.plain.proofs.Looks.{direct_given, given_direct}
use Rattle.plain.proofs.source.is_direct.Goals as goal

pub returns : goal.returns
returns c =
    let any : IsTrue c.any.result ↔ Any (Grants c.args.node.now c.args.user.now c.args.held.now) c.args.source.now.tuples.now.keys = search rules in
    (λ t. direct_given c.args.source.now c.args.user.now c.args.node.now c.args.held.now (any.0 t), λ g. any.1 (given_direct c.args.source.now c.args.user.now c.args.node.now c.args.held.now g))
