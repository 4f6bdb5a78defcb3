use Rattle.desk_tests.proofs.changes.sessions_know_what_they_are_told.Given as goal

abbrev pub ghosts-sessions_learn : goal.ghosts-sessions_learn
ghosts-sessions_learn g a = record { book = a.opened.book }
