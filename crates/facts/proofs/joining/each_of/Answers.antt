use Rattle.std.proofs.Common.{◌∙◌}
use Rattle.region.specs.Rules.{shape_of}
use Rattle.facts.proofs.Shaping.{each_popped, last_popped}
use Rattle.facts.proofs.joining.each_of.Goals as goal

pub loop-rule-init : goal.loop-rule-init
loop-rule-init c = last_popped c.args.rules.items c.pop.new.self.items c.pop.result c.in-Some.last c.pop.ensures.items c.in-Some.is

pub loop-rule-preserved : goal.loop-rule-preserved
loop-rule-preserved c =
    each_popped c.loop-rule.rules.items c.pop-in-loop-rule.new.self.items c.pop-in-loop-rule.result c.in-Some-pop.rule (shape_of c.loop-rule.each) (shape_of c.in_ok-each.each) c.pop-in-loop-rule.ensures.items c.in-Some-pop.is c.in_ok-each.ensures
    ∙ c.loop-rule.invariant
