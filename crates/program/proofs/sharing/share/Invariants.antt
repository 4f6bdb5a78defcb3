use Rattle.desk.specs.Posts.{OpensWith}
use Rattle.program.proofs.sharing.share.Given as goal

abbrev pub ghosts-serve_by_many-J-Naming : goal.ghosts-serve_by_many-J-Naming
ghosts-serve_by_many-J-Naming g a = record { book = a.opening.opened.book }

abbrev pub ghosts-serve_by_many-J-HistoryName : goal.ghosts-serve_by_many-J-HistoryName
ghosts-serve_by_many-J-HistoryName g a = record { table = a.opening.history }

abbrev pub ghosts-serve_by_many-J-KeeperName : goal.ghosts-serve_by_many-J-KeeperName
ghosts-serve_by_many-J-KeeperName g a = record { starts = OpensWith g.T.Tables a.tables }
