use Rattle.keeper_tests.proofs.threads.a_session_beside_a_keeper_that_is_closed.Given as goal

abbrev pub ghosts-closed-J-Naming : goal.ghosts-closed-J-Naming
ghosts-closed-J-Naming g a = record { book = a.opening.opened.book }

abbrev pub ghosts-closed-J-HistoryName : goal.ghosts-closed-J-HistoryName
ghosts-closed-J-HistoryName g a = record { table = a.opening.history }

abbrev pub ghosts-closed-J-KeeperName : goal.ghosts-closed-J-KeeperName
ghosts-closed-J-KeeperName g a = record { starts = λ _. Unit {0} }
