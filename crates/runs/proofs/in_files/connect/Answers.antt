use Rattle.sqlite_wal.specs.Files.{image_at}
use Rattle.runs.proofs.Results.{on_some}
use Rattle.runs.proofs.Imaged.{refused_for}
use Rattle.runs.proofs.in_files.connect.Goals as goal

pub returns-in-Err-clause-left : goal.returns-in-Err-clause-left
returns-in-Err-clause-left g c = on_some c.in-Err.left (λ left h. (c.in-Err.error, h)) c.in-Err.ensures.refused

pub returns-in-Err-clause-caused : goal.returns-in-Err-clause-caused
returns-in-Err-clause-caused g c = λ is. on_some c.in-Err.left (λ left h. refused_for (image_at g.P.Start) left c.in-Err.error c.told_of.result c.told_of.ensures.memory is h) c.in-Err.ensures.refused
