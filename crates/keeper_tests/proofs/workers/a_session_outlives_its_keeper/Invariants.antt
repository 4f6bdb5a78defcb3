use Rattle.keeper_tests.proofs.workers.a_session_outlives_its_keeper.Given as goal

abbrev pub ghosts-outlives-J-Naming : goal.ghosts-outlives-J-Naming
ghosts-outlives-J-Naming g a = record { book = a.opening.opened.book }

abbrev pub ghosts-outlives-J-HistoryName : goal.ghosts-outlives-J-HistoryName
ghosts-outlives-J-HistoryName g a = record { table = a.opening.history }

abbrev pub ghosts-outlives-J-KeeperName : goal.ghosts-outlives-J-KeeperName
ghosts-outlives-J-KeeperName g a = record { starts = λ _. Unit {0} }
