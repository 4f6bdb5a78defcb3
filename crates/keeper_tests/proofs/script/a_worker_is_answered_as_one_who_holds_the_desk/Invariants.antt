use Rattle.keeper_tests.proofs.script.a_worker_is_answered_as_one_who_holds_the_desk.Given as goal

abbrev pub ghosts-by_locked-J-Naming : goal.ghosts-by_locked-J-Naming
ghosts-by_locked-J-Naming g a = record { book = a.opening.opened.book }

abbrev pub ghosts-by_locked-J-HistoryName : goal.ghosts-by_locked-J-HistoryName
ghosts-by_locked-J-HistoryName g a = record { table = a.opening.history }

abbrev pub ghosts-by_locked-J-KeeperName : goal.ghosts-by_locked-J-KeeperName
ghosts-by_locked-J-KeeperName g a = record { starts = λ _. Unit {0} }

abbrev pub ghosts-by_lent : goal.ghosts-by_lent
ghosts-by_lent g a = record { book = a.opened.book }
