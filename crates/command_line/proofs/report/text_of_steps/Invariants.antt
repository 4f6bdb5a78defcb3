use Rattle.std.proofs.Common.{◌≡◌, ◌++◌, ◌∷◌, drop, string_bytes}
use Rattle.std.specs.List.{flat_map}
use Rattle.bodies.specs.Replies.{signed_text}
use Rattle.command_line.proofs.report.text_of_steps.Given as goal

abbrev pub invariant-loop-step : goal.invariant-loop-step
invariant-loop-step l = string_bytes l.text ++ flat_map (λ step. 32 ∷ signed_text step) (drop l.step-index l.steps) ≡ flat_map (λ step. 32 ∷ signed_text step) l.steps
