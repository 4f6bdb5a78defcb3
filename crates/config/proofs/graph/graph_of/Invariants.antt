use Rattle.std.proofs.Common.{◌<◌, ◌*◌, []}
use Rattle.config_text.specs.Parts.{parts_of}
use Rattle.config.specs.inside.Graph.{Adds}
use Rattle.config.proofs.graph.graph_of.Given as goal

abbrev pub invariant-loop-from : goal.invariant-loop-from
invariant-loop-from l = Adds (parts_of l.parts) [] l.steps.items (λ s. s.from < l.from) (512 * l.from)
