use Rattle.std.proofs.Common.{◌∙◌}
use Rattle.region.specs.Rules.{shape_of}
use Rattle.facts.proofs.Shaping.{any_popped}
use Rattle.facts.proofs.joining.any_of.Goals as goal

pub loop-rule-preserved : goal.loop-rule-preserved
loop-rule-preserved c =
    any_popped c.loop-rule.rules.items c.pop.new.self.items c.pop.result c.in-Some.rule (shape_of c.loop-rule.any) (shape_of c.in_ok-any.any) c.pop.ensures.items c.in-Some.is c.in_ok-any.ensures
    ∙ c.loop-rule.invariant
