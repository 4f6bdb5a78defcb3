use Rattle.sessions.proofs.start.Given as goal

abbrev pub ghosts-run-J-Naming : goal.ghosts-run-J-Naming
ghosts-run-J-Naming g a = record { book = a.opening.opened.book }

abbrev pub ghosts-run-J-HistoryName : goal.ghosts-run-J-HistoryName
ghosts-run-J-HistoryName g a = record { table = a.opening.history }

abbrev pub ghosts-run-J-KeeperName : goal.ghosts-run-J-KeeperName
ghosts-run-J-KeeperName g a = record { starts = λ _. Unit {0} }
