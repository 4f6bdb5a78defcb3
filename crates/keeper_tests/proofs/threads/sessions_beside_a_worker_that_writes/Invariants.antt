use Rattle.keeper_tests.proofs.threads.sessions_beside_a_worker_that_writes.Given as goal

abbrev pub ghosts-beside-J-Naming : goal.ghosts-beside-J-Naming
ghosts-beside-J-Naming g a = record { book = a.opening.opened.book }

abbrev pub ghosts-beside-J-HistoryName : goal.ghosts-beside-J-HistoryName
ghosts-beside-J-HistoryName g a = record { table = a.opening.history }

abbrev pub ghosts-beside-J-KeeperName : goal.ghosts-beside-J-KeeperName
ghosts-beside-J-KeeperName g a = record { starts = λ _. Unit {0} }
