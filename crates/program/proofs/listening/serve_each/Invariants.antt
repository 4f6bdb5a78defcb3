use Rattle.runs.specs.Connections.{StaysServing}
use Rattle.program.proofs.listening.serve_each.Given as goal

abbrev pub invariant-loop : goal.invariant-loop
invariant-loop g l = StaysServing g.T.Tables l.initial.answering l.answering
