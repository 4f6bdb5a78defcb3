use Rattle.std.proofs.Common.{◌≡◌, ◌≤◌, length, arith, map}
use Rattle.std.proofs.lemmas.List.{length-map}
use Rattle.config_text.specs.Forms.{defined_of}
use Rattle.config_text.specs.Parts.{parts_of}
use Rattle.config.proofs.Places.{graph_made}
use Rattle.config.proofs.graph.graph_of.Goals as goal

pub returns-clause-graph : goal.returns-clause-graph
returns-clause-graph c =
    let long : length (map defined_of c.args.parts.now.relations.items) ≡ length c.args.parts.now.relations.items = length-map c.args.parts.now.relations.items defined_of in
    let past : length (map defined_of c.args.parts.now.relations.items) ≤ c.loop-from.from = omega (arith, long, c.len-count.ensures, c.loop-from-test.false) in
    graph_made (parts_of c.args.parts.now) c.loop-from.steps.items c.loop-from.from _ past c.loop-from.invariant
