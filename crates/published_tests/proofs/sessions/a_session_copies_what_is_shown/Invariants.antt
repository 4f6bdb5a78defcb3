use Rattle.published_tests.proofs.sessions.a_session_copies_what_is_shown.Given as goal

abbrev pub ghosts-copies : goal.ghosts-copies
ghosts-copies g a = record { book = a.opened.book }
