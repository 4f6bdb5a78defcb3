use Rattle.std.proofs.Common.{ap, sym, ◌∙◌}
use Rattle.std.specs.Prelude.{◌&&◌, not, is_some}
use Rattle.meaning.specs.Config.{rel_of}
use Rattle.config.specs.Valid.{is_indexed}
use Rattle.leopard.proofs.DirectSets.{user_test}
use Rattle.leopard.proofs.members.names_user.Goals as goal

pub returns-then-is_group : goal.returns-then-is_group
returns-then-is_group c = user_test (is_indexed c.args.config.now (rel_of c.args.tuple.now.node)) c.is_none.result (is_some c.args.tuple.now.subject.relation) (sym c.is_group.ensures ∙ c.if-is_group.true) c.is_none.ensures

pub returns-else-is_group : goal.returns-else-is_group
returns-else-is_group c = c.if-is_group.false ∙ ap (λ b. b && not (is_some c.args.tuple.now.subject.relation)) (sym c.if-is_group.false ∙ c.is_group.ensures)
