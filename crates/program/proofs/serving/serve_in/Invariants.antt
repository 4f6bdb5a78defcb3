use Rattle.program.proofs.serving.serve_in.Given as goal

abbrev pub ghosts-serve_alone_in : goal.ghosts-serve_alone_in
ghosts-serve_alone_in g a = record { book = a.host.opened.book }
