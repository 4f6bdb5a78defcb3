use Rattle.program.proofs.command.run_at.Given as goal

abbrev pub ghosts-run : goal.ghosts-run
ghosts-run g a = record { book = a.opened.book }
