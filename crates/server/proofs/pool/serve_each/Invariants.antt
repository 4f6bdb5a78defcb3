use Rattle.std.specs.Prelude.{List, ◌≡◌, length}
use Rattle.answers.specs.declared.end.End.{End}
use Rattle.server.specs.Attending.{OneByOne}
use Rattle.server.proofs.pool.serve_each.Given as goal

abbrev pub invariant-loop-stream : goal.invariant-loop-stream
invariant-loop-stream g l = (ends : List End) × (length ends ≡ length l.yielded) × OneByOne g.S.Serves.served l.initial.server ends l.server
