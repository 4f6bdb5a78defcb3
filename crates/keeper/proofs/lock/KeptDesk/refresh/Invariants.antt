use Rattle.std.proofs.Common.{[], ◌∷◌}
use Rattle.keeper.specs.declared.deeds.Deed.TheVariants.{Refreshed}
use Rattle.keeper.proofs.lock.KeptDesk.refresh.Given as goal

abbrev pub ghosts-note : goal.ghosts-note
ghosts-note g a = record { by = a.self.now.by; what = Refreshed ∷ [] }
