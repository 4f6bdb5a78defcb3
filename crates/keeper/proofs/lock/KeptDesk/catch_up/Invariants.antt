use Rattle.std.proofs.Common.{[], ◌∷◌}
use Rattle.keeper.specs.declared.deeds.Deed.TheVariants.{CaughtUp}
use Rattle.keeper.proofs.lock.KeptDesk.catch_up.Given as goal

abbrev pub ghosts-note_caught_up : goal.ghosts-note_caught_up
ghosts-note_caught_up g a = record { by = a.self.now.by; what = CaughtUp a.part a.commits ∷ [] }
