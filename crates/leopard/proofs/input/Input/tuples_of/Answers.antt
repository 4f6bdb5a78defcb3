use Rattle.std.proofs.Common.{◌≡◌, List, subst}
use Rattle.std.specs.Prelude.{◌↔◌, Contains}
use Rattle.names.specs.declared.tuple.Tuple.{Tuple}
use Rattle.leopard.proofs.input.Input.tuples_of.Goals as goal

pub tuples_at-requires : goal.tuples_at-requires
tuples_at-requires c = c.tuples.ensures.ordered

pub returns : goal.returns
returns c t = subst (λ (l : List Tuple). Contains c.tuples_at.result.now t ↔ (Contains l t × (t.node ≡ c.args.node.now))) c.tuples.ensures.tuples (c.tuples_at.ensures t)
