use Rattle.keeper_tests.proofs.workers.a_question_that_came_back_is_answered_after_a_refresh.Given as goal

abbrev pub ghosts-later-J-Naming : goal.ghosts-later-J-Naming
ghosts-later-J-Naming g a = record { book = a.opening.opened.book }

abbrev pub ghosts-later-J-HistoryName : goal.ghosts-later-J-HistoryName
ghosts-later-J-HistoryName g a = record { table = a.opening.history }

abbrev pub ghosts-later-J-KeeperName : goal.ghosts-later-J-KeeperName
ghosts-later-J-KeeperName g a = record { starts = λ _. Unit {0} }
