use Rattle.std.proofs.Common.{subst, inr}
use Rattle.http_api.specs.inside.Going.{Finished}
use Rattle.http_api.proofs.connection.serve_by.Goals as goal

pub returns-in-Ok-clause-closed : goal.returns-in-Ok-clause-closed
returns-in-Ok-clause-closed g c e = subst (Finished g.A.Answers.step g.R.Read.remaining (c.args.answers.now, c.args.reader.now, c.args.writer.now) (c.serve_on.new.answers, c.serve_on.new.reader, c.serve_on.new.writer)) e c.serve_on.ensures.finished

pub returns-in-Ok-clause-broken : goal.returns-in-Ok-clause-broken
returns-in-Ok-clause-broken g c e = subst (Finished g.A.Answers.step g.R.Read.remaining (c.args.answers.now, c.args.reader.now, c.args.writer.now) (c.serve_on.new.answers, c.serve_on.new.reader, c.serve_on.new.writer)) e c.serve_on.ensures.finished

pub returns-in-Ok-clause-asked : goal.returns-in-Ok-clause-asked
returns-in-Ok-clause-asked g c e = subst (Finished g.A.Answers.step g.R.Read.remaining (c.args.answers.now, c.args.reader.now, c.args.writer.now) (c.serve_on.new.answers, c.serve_on.new.reader, c.serve_on.new.writer)) e c.serve_on.ensures.finished

pub returns-in-Ok-clause-memory : goal.returns-in-Ok-clause-memory
returns-in-Ok-clause-memory g c e = inr (subst (Finished g.A.Answers.step g.R.Read.remaining (c.args.answers.now, c.args.reader.now, c.args.writer.now) (c.serve_on.new.answers, c.serve_on.new.reader, c.serve_on.new.writer)) e c.serve_on.ensures.finished)

pub returns-in-Ok-clause-read_fault : goal.returns-in-Ok-clause-read_fault
returns-in-Ok-clause-read_fault g c e = subst (Finished g.A.Answers.step g.R.Read.remaining (c.args.answers.now, c.args.reader.now, c.args.writer.now) (c.serve_on.new.answers, c.serve_on.new.reader, c.serve_on.new.writer)) e c.serve_on.ensures.finished

pub returns-in-Ok-clause-write_fault : goal.returns-in-Ok-clause-write_fault
returns-in-Ok-clause-write_fault g c e = subst (Finished g.A.Answers.step g.R.Read.remaining (c.args.answers.now, c.args.reader.now, c.args.writer.now) (c.serve_on.new.answers, c.serve_on.new.reader, c.serve_on.new.writer)) e c.serve_on.ensures.finished
