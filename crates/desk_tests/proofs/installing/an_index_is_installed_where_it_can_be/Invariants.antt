use Rattle.desk_tests.proofs.installing.an_index_is_installed_where_it_can_be.Given as goal

abbrev pub ghosts-with_desk : goal.ghosts-with_desk
ghosts-with_desk g a = record { book = a.opened.book }
