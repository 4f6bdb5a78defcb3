use Rattle.std.proofs.Common.{List, sym, subst, ◌∙◌}
use Rattle.std.specs.Prelude.{Contains}
use Rattle.std.proofs.lemmas.List.Filters.{dedup_is}
use Rattle.std.proofs.lemmas.List.Kept.{IsStrictlySortedBy-dedup, Contains-dedup, Contains-from_dedup}
use Rattle.std.proofs.lemmas.List.Sorted.{Contains-permutation, IsPermutation-sym}
use Rattle.std.proofs.lemmas.Map.Views.{tells_apart}
use Rattle.leopard.proofs.sorted.Sorted.of.Goals as goal

pub invariant_of-result : goal.invariant_of-result
invariant_of-result g c = rw (dedup_is _ _ _ c.dedup.ensures.filtered) (IsStrictlySortedBy-dedup g.met.N.Ord.total g.met.N.Ord.matches_eq _ c.sort_unstable.ensures.sorted)

pub returns-clause-sorted : goal.returns-clause-sorted
returns-clause-sorted g c = rw (dedup_is _ _ _ c.dedup.ensures.filtered) (IsStrictlySortedBy-dedup g.met.N.Ord.total g.met.N.Ord.matches_eq _ c.sort_unstable.ensures.sorted)

pub returns-clause-names : goal.returns-clause-names
returns-clause-names g c = λ n.
    let is = dedup_is _ _ _ c.dedup.ensures.filtered in
    let moved = c.sort_unstable.ensures.permutation in (
      λ h. Contains-permutation _ _ n (IsPermutation-sym _ _ moved) (Contains-from_dedup _ _ n (subst (λ (l : List g.row.N.Denot). Contains l n) is h)),
      λ h. subst (λ (l : List g.row.N.Denot). Contains l n) (sym is)
          (Contains-dedup g.met.N.Eq.laws (λ x y e. tells_apart g.met.N.Named.exact x y (sym (g.met.N.Ord.matches_eq x y) ∙ e)) _ n (Contains-permutation _ _ n moved h)),
    )
