use Rattle.std.proofs.Common.{◌≡◌, ◌<◌, ◌*◌}
use Rattle.config_text.specs.Parts.{parts_of}
use Rattle.config.specs.inside.Graph.{Adds}
use Rattle.config.proofs.graph.add_steps_from.Given as goal

abbrev pub invariant-loop-to : goal.invariant-loop-to
invariant-loop-to l = Adds (parts_of l.parts) l.initial.steps.items l.steps.items (λ s. (s.from ≡ l.from) × (s.to < l.to)) (2 * l.to)
