use Rattle.published_tests.proofs.sessions.there_are_32_sessions.Given as goal

abbrev pub ghosts-runs_out : goal.ghosts-runs_out
ghosts-runs_out g a = record { book = a.opened.book }
