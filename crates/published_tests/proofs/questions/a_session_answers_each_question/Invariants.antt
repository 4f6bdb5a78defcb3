use Rattle.published_tests.proofs.questions.a_session_answers_each_question.Given as goal

abbrev pub ghosts-answers : goal.ghosts-answers
ghosts-answers g a = record { book = a.opened.book }
