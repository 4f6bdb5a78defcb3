use Rattle.std.specs.Prelude.{◌≡◌, MatchResult, length}
use Rattle.std.specs.Vec.Iter.{into_iter_items, into_iter_len}
use Rattle.server.specs.Attending.{ServedUntil}
use Rattle.server.proofs.Pairs.{Gathers, Leads}
use Rattle.server.proofs.pool.serve_in.Given as goal

-- a thread was started for this one, or its closure has it
abbrev pub invariant-loop-server : goal.invariant-loop-server
invariant-loop-server g l = record {
  count : into_iter_len l.server-iterator ≡ length (into_iter_items l.server-iterator);
  gathers : Gathers (λ s one. MatchResult one (λ thread. thread.promise.began.value ≡ s) (λ refused. refused.value.4 ≡ s)) l.fn.servers.items (into_iter_items l.server-iterator) l.started.items;
}

abbrev pub invariant-loop-one : goal.invariant-loop-one
invariant-loop-one g l = record {
  count : into_iter_len l.one-iterator ≡ length (into_iter_items l.one-iterator);
  leads : Leads (λ s one. MatchResult one (λ thread. thread.promise.began.value ≡ s) (λ refused. refused.value.4 ≡ s)) (ServedUntil g.S.Serves.served g.S.Leaves.left)
      l.fn.servers.items (into_iter_items l.one-iterator) l.ended.items;
}
