use Rattle.std.proofs.Common.{[]}
use Rattle.one_history.proofs.log.Log.look.Given as goal

abbrev pub ghosts-note : goal.ghosts-note
ghosts-note g a = record { by = a.worker.now.by; what = [] }
