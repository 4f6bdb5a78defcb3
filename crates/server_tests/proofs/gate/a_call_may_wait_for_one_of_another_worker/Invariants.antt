use Rattle.server_tests.proofs.gate.a_call_may_wait_for_one_of_another_worker.Given as goal

abbrev pub ghosts-serve_both-J-Naming : goal.ghosts-serve_both-J-Naming
ghosts-serve_both-J-Naming g a = record { book = a.opening.opened.book }

abbrev pub ghosts-serve_both-J-HistoryName : goal.ghosts-serve_both-J-HistoryName
ghosts-serve_both-J-HistoryName g a = record { table = a.opening.history }

abbrev pub ghosts-serve_both-J-KeeperName : goal.ghosts-serve_both-J-KeeperName
ghosts-serve_both-J-KeeperName g a = record { starts = λ _. Unit {0} }
