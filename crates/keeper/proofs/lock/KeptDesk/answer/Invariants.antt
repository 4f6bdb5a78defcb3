use Rattle.std.proofs.Common.{[], ◌∷◌}
use Rattle.names.specs.Calls.{told}
use Rattle.keeper.specs.declared.deeds.Deed.TheVariants.{Answered}
use Rattle.keeper.proofs.lock.KeptDesk.answer.Given as goal

abbrev pub ghosts-note_answered : goal.ghosts-note_answered
ghosts-note_answered g a = record { by = a.self.now.by; what = Answered a.call a.body.now (told a.reply.now) ∷ [] }
