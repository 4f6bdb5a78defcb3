use Rattle.std.proofs.Common.{◌≡◌, ◌∷◌, take, map}
use Rattle.serde_json.specs.Data.{string}
use Rattle.serde_json.specs.View.{view}
use Rattle.bodies.specs.Replies.{start_text, signed_text}
use Rattle.bodies.proofs.refusals.cycle_list.Given as goal

abbrev pub invariant-loop-step : goal.invariant-loop-step
invariant-loop-step l = map view l.list.items ≡ string (start_text l.steps) ∷ map (λ s. string (signed_text s)) (take l.step-index l.steps)
