use Rattle.runs.proofs.over.run_over.Given as goal

abbrev pub ghosts-run : goal.ghosts-run
ghosts-run g a = record { book = a.opened.book }
