use Rattle.std.proofs.Common.{sym, ap, ◌∙◌}
use Rattle.std.specs.Prelude.{nat_eq}
use Rattle.std.proofs.lemmas.List.Filters.{dedup_is}
use Rattle.std.proofs.lemmas.List.Sorted.{list_any-IsPermutation}
use Rattle.std.proofs.lemmas.Map.Keys.{IsStrictlyIncreasing-dedup}
use Rattle.idsets.specs.Sets.{has}
use Rattle.idsets.proofs.Having.{has-dedup}
use Rattle.idsets.proofs.set.IdSet.of_runs.Goals as goal

pub invariant_of-result : goal.invariant_of-result
invariant_of-result c = rw (dedup_is _ _ _ c.dedup.ensures.filtered) (IsStrictlyIncreasing-dedup _ c.in_ok-sort.ensures.sorted)

pub returns-clause-ascending : goal.returns-clause-ascending
returns-clause-ascending c = rw (dedup_is _ _ _ c.dedup.ensures.filtered) (IsStrictlyIncreasing-dedup _ c.in_ok-sort.ensures.sorted)

pub returns-clause-members : goal.returns-clause-members
returns-clause-members c = λ id.
    ap (λ l. has l id) (dedup_is _ _ _ c.dedup.ensures.filtered) ∙ has-dedup _ id
    ∙ sym (list_any-IsPermutation (nat_eq id) _ _ c.in_ok-sort.ensures.permutation)
