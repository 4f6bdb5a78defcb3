use Rattle.program.proofs.serving.serve_at.Given as goal

abbrev pub ghosts-serve_listed : goal.ghosts-serve_listed
ghosts-serve_listed g a = record { book = a.host.opened.book }
