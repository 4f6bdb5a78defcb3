use Rattle.published_tests.proofs.sessions.a_receipt_is_learnt_by_two.Given as goal

abbrev pub ghosts-outlives : goal.ghosts-outlives
ghosts-outlives g a = record { book = a.opened.book }
