use Rattle.std.proofs.Common.{◌≡◌, take, drop}
use Rattle.shown.specs.Standing.{standing}
use Rattle.publication.specs.WorldParts.{HaveRoom}
use Rattle.publication.proofs.world.standing_of.Given as goal

-- the steps so far were applied, and the others have room
abbrev pub invariant-loop-step : goal.invariant-loop-step
invariant-loop-step l = (l.shown ≡ standing (take l.step-index l.steps)) × HaveRoom (standing (take l.step-index l.steps)) (drop l.step-index l.steps)
