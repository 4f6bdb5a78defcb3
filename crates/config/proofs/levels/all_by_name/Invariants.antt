use Rattle.std.proofs.Common.{◌≡◌, map, take}
use Rattle.config_text.specs.Parts.{parts_of}
use Rattle.config.specs.inside.Graph.{step_by_name}
use Rattle.config.proofs.levels.all_by_name.Given as goal

abbrev pub invariant-loop-step : goal.invariant-loop-step
invariant-loop-step l = l.named.items ≡ map (step_by_name (parts_of l.parts)) (take l.step-index l.steps)
