use Rattle.std.proofs.Common.{arith}
use Rattle.std.specs.List.{IsDistinct}
use Rattle.answer_cache.proofs.cached.CachedAnswers.clear.Goals as goal

pub invariant_of-self : goal.invariant_of-self
unfolding IsDistinct
invariant_of-self c = rw c.clear.ensures (record { capacity = c.self.invariant.capacity; few = omega arith; distinct = tt })
