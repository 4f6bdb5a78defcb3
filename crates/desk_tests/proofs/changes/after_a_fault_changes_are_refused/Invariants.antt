use Rattle.desk_tests.proofs.changes.after_a_fault_changes_are_refused.Given as goal

abbrev pub ghosts-closes_once : goal.ghosts-closes_once
ghosts-closes_once g a = record { book = a.opened.book }
