use Rattle.std.proofs.Common.{◌∷◌, arith}
use Rattle.std.proofs.lemmas.List.{length_push}
use Rattle.server.proofs.pool.serve_each.Goals as goal

pub loop-stream-preserved : goal.loop-stream-preserved
loop-stream-preserved g c =
    let before = c.loop-stream.invariant in
    (c.serve-end.result ∷ before.0, omega (length_push c.loop-stream.yielded c.in-Some.stream, before.1, arith), (c.loop-stream.server, before.2, c.serve-end.ensures))
