use Rattle.desk_tests.proofs.changes.receipts_have_the_list_of_shown_steps.Given as goal

abbrev pub ghosts-begins_empty : goal.ghosts-begins_empty
ghosts-begins_empty g a = record { book = a.opened.book }
