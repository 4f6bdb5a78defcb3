use Rattle.std.proofs.Common.{◌≡◌, ℕ, ◌<◌, ◌-◌, length, get_or}
use Rattle.strata.specs.declared.search.Seen.{Seen}
use Rattle.strata.proofs.cycle.place_of.Given as goal

abbrev pub invariant-loop-place : goal.invariant-loop-place
invariant-loop-place l = (k : ℕ) (x : Seen) → k < l.place → get_or l.seen k x ≡ x → x.node ≡ l.node → ⊥

abbrev pub decreases-loop-place : goal.decreases-loop-place
decreases-loop-place l = length l.seen - l.place
