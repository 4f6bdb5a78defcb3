use Rattle.lookup.proofs.Candidates.{HasIds}
use Rattle.lookup.proofs.walking.ids_in.Given as goal

abbrev pub invariant-loop-place : goal.invariant-loop-place
invariant-loop-place l = HasIds l.asked l.reached l.place l.ids.items
