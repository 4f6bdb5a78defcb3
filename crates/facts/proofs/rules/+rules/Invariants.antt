use Rattle.std.proofs.Common.{take, map}
use Rattle.config_text.specs.Forms.{rewrite_forms}
use Rattle.region.specs.Rules.{shape_of}
use Rattle.facts.specs.Numbers.{Grew}
use Rattle.facts.specs.Telling.{AreShapesIn}
use Rattle.facts.proofs.rules.+rules.Given as goal

abbrev pub invariant-all_rules-loop-part : goal.invariant-all_rules-loop-part
invariant-all_rules-loop-part l = record {
  grew : Grew l.fn.nodes l.nodes;
  rules : AreShapesIn l.view l.nodes l.node (rewrite_forms (take l.part-index l.parts)) (map shape_of l.rules.items);
}
