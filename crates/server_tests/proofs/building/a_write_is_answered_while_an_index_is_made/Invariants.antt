use Rattle.server_tests.proofs.building.a_write_is_answered_while_an_index_is_made.Given as goal

abbrev pub ghosts-configured_and_served-J-Naming : goal.ghosts-configured_and_served-J-Naming
ghosts-configured_and_served-J-Naming g a = record { book = a.opening.opened.book }

abbrev pub ghosts-configured_and_served-J-HistoryName : goal.ghosts-configured_and_served-J-HistoryName
ghosts-configured_and_served-J-HistoryName g a = record { table = a.opening.history }

abbrev pub ghosts-configured_and_served-J-KeeperName : goal.ghosts-configured_and_served-J-KeeperName
ghosts-configured_and_served-J-KeeperName g a = record { starts = λ _. Unit {0} }
