use Rattle.std.proofs.Common.{◌≡◌, List, [], ap, sym, subst, refl, not, None}
use Rattle.std.specs.List.{find}
use Rattle.std.specs.List.Sorted.{IsStrictlySortedBy}
use Rattle.names.specs.Order.{tuple_cmp}
use Rattle.names.specs.declared.tuple.Tuple.{Tuple}
use Rattle.meaning.specs.Admits.{admits}
use Rattle.meaning.specs.Config.{Configured}
use Rattle.meaning.specs.Snap.{empty_snap}
use Rattle.meaning.specs.TupleSet.{items}
use Rattle.meaning.specs.Verdict.{in_the_way, or_else}
use Rattle.meaning.proofs.TupleSets.{items_from_list}
use Rattle.names.specs.declared.commit.Commit.{Commit}
use Rattle.rows.specs.Follows.{IsNext}
use Rattle.rows.specs.Retained.{empty_store}
use Rattle.tables.specs.Storing.{PutsAbsent}
use Rattle.desk_tests.proofs.listed.stores_one.Goals as goal

none_ordered : IsStrictlySortedBy tuple_cmp []
unfolding IsStrictlySortedBy
none_ordered = tt

-- any configuration can follow nothing
can_follow : (config : Configured) → or_else (in_the_way (find (λ t. not (admits config t)) (items empty_snap.tuples))) None ≡ None
can_follow config = ap (λ (ts : List Tuple). or_else (in_the_way (find (λ t. not (admits config t)) ts)) None) (items_from_list [] none_ordered)

pub change-requires : goal.change-requires
change-requires c = (empty_store 7, c.new-tables.ensures, (subst (λ (m : Commit Configured). IsNext (empty_store 7) m) (sym c.in-Ok.ensures) (can_follow c.empty.result), refl, λ is. subst (λ (m : Commit Configured). PutsAbsent (empty_store 7) m) (sym c.in-Ok.ensures) tt))
