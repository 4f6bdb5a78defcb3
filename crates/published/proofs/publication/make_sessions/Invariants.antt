use Rattle.std.proofs.Common.{◌≡◌, vec_len, All}
use Rattle.published.proofs.publication.make_sessions.Given as goal

abbrev pub invariant-loop : goal.invariant-loop
invariant-loop g l = record {
  same : l.publisher ≡ l.fn.publisher;
  count : vec_len l.sessions ≡ l.counter;
  seated : All (λ s. s.book ≡ l.fn.entered.book) l.sessions.items;
}
