use Rattle.published_tests.proofs.sessions.a_repeated_check_is_answered_at_its_revision.Given as goal

abbrev pub ghosts-repeats : goal.ghosts-repeats
ghosts-repeats g a = record { book = a.opened.book }
