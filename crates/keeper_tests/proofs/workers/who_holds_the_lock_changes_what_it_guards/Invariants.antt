use Rattle.keeper_tests.proofs.workers.who_holds_the_lock_changes_what_it_guards.Given as goal

abbrev pub ghosts-under_the_lock-J-Naming : goal.ghosts-under_the_lock-J-Naming
ghosts-under_the_lock-J-Naming g a = record { book = a.opening.opened.book }

abbrev pub ghosts-under_the_lock-J-HistoryName : goal.ghosts-under_the_lock-J-HistoryName
ghosts-under_the_lock-J-HistoryName g a = record { table = a.opening.history }

abbrev pub ghosts-under_the_lock-J-KeeperName : goal.ghosts-under_the_lock-J-KeeperName
ghosts-under_the_lock-J-KeeperName g a = record { starts = λ _. Unit {0} }
