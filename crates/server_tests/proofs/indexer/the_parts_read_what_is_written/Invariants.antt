use Rattle.server_tests.proofs.indexer.the_parts_read_what_is_written.Given as goal

abbrev pub ghosts-serve_and_write-J-Naming : goal.ghosts-serve_and_write-J-Naming
ghosts-serve_and_write-J-Naming g a = record { book = a.opening.opened.book }

abbrev pub ghosts-serve_and_write-J-HistoryName : goal.ghosts-serve_and_write-J-HistoryName
ghosts-serve_and_write-J-HistoryName g a = record { table = a.opening.history }

abbrev pub ghosts-serve_and_write-J-KeeperName : goal.ghosts-serve_and_write-J-KeeperName
ghosts-serve_and_write-J-KeeperName g a = record { starts = λ _. Unit {0} }
