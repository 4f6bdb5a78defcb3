use Rattle.std.proofs.Common.{rules}
use Rattle.std.specs.Prelude.{◌↔◌, IsTrue, Any}
use Rattle.plain.specs.inside.Source.{LeadsOn}
use Rattle.plain.proofs.Looks.{through_given, given_through}
use Rattle.plain.proofs.source.is_through.Goals as goal

pub returns : goal.returns
returns c =
    let any : IsTrue c.any.result ↔ Any (LeadsOn c.args.source.now.relations.now c.args.node.now.object c.args.tupleset.now c.args.relation.now c.args.held.now) c.args.source.now.tuples.now.keys = search rules in (
      λ t. through_given c.args.source.now c.args.user.now c.args.node.now c.args.held.now c.args.tupleset.now c.args.relation.now (any.0 t),
      λ g. any.1 (given_through c.args.source.now c.args.user.now c.args.node.now c.args.held.now c.args.tupleset.now c.args.relation.now g),
    )
