use Rattle.std.proofs.Common.{ap, ◌∙◌}
use Rattle.names.specs.declared.tuple.Tuple.{Tuple}
use Rattle.decide.proofs.ReadTuples.{of_relation}
use Rattle.decide.proofs.read_tuple.ReadTuple.is_of.Goals as goal

pub returns : goal.returns
returns c =
    of_relation c.args.node.now c.args.self.now _ _ c.eq.result c.requires
    (c.self.invariant.0 ∙ ap (λ (t : Tuple). t.node.relation) c.self.view_is)
    c.as_str.ensures.text c.eq.ensures
