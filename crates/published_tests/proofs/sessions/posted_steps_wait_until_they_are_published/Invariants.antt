use Rattle.published_tests.proofs.sessions.posted_steps_wait_until_they_are_published.Given as goal

abbrev pub ghosts-waits : goal.ghosts-waits
ghosts-waits g a = record { book = a.opened.book }
