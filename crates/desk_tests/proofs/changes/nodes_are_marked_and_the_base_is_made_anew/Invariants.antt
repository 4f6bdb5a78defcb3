use Rattle.desk_tests.proofs.changes.nodes_are_marked_and_the_base_is_made_anew.Given as goal

abbrev pub ghosts-steps_without_tables : goal.ghosts-steps_without_tables
ghosts-steps_without_tables g a = record { book = a.opened.book }
