use Rattle.rows.proofs.Written.{refused_unless_written}
use Rattle.rows.proofs.law.refuses_what_no_write_gives.Goals as goal

pub returns : goal.returns
returns c = refused_unless_written
