use Rattle.std.proofs.Common.{◌≡◌, List, [], ap, sym, subst, ◌∙◌, refl, arith}
use Rattle.std.specs.List.Sorted.{IsStrictlySortedBy}
use Rattle.names.specs.declared.tuple.Tuple.{Tuple}
use Rattle.meaning.specs.TupleSet as set
use Rattle.meaning.specs.Config.{Configured, empty_config}
use Rattle.meaning.specs.Snap.{empty_snap}
use Rattle.meaning.specs.History.{History}
use Rattle.meaning.proofs.TupleSets.{contains_empty}
use Rattle.rows.specs.declared.config_at.ConfigAt.{ConfigAt}
use Rattle.rows.specs.declared.loaded.Counts.{Counts}
use Rattle.rows.specs.declared.loaded.Loaded.{Loaded}
use Rattle.rows.specs.Loads.{IsWithin, retained_of}
use Rattle.versions.specs.Versions.{Entries, versions_at, base_versions}
use Rattle.rows.specs.Representation.{as_retained, IsConsistent}
use Rattle.rows.proofs.Admitting.{of_all, none_admitted}
use Rattle.rows.proofs.Committing.{consistent_as, as_retained_is}
use Rattle.rows.proofs.Loading.{consistent_none, len_is}
use Rattle.rows.proofs.rows.Rows.empty.Goals as goal

-- what no table held
abbrev none_loaded : Loaded
none_loaded = record { number = 0; floor = 0; config = empty_config; tuples = []; commits = [] }

none_within : IsWithin none_loaded
unfolding IsStrictlySortedBy
none_within =
    let none = len_is [] tt in
    record { ordered = tt; revs = omega arith; rows = omega (arith, none); admitted = of_all (retained_of none_loaded) (none_admitted empty_config); each_ordered = refl }

consistent_nothing : (m : Entries) → ((q : Tuple) → versions_at m q ≡ []) → IsConsistent (record { number = 0; floor = 0; base = empty_snap; commits = [] }) m [] (record { rows = 0; tuples = 0 })
consistent_nothing m versions = consistent_none none_loaded m (record { rows = 0; tuples = 0 }) none_within (λ q. versions q ∙ sym (ap base_versions (contains_empty q))) refl refl

no_versions : (m : Entries) → m ≡ [] → (q : Tuple) → versions_at m q ≡ []
no_versions m h q = ap (λ (es : Entries). versions_at es q) h

pub invariant_of-result : goal.invariant_of-result
invariant_of-result c =
    let m = c.new-2.result in
    let counts : Counts = record { rows = 0; tuples = 0 } in
    let consistent : IsConsistent (as_retained 0 0 empty_config m []) m [] counts = consistent_as 0 0 empty_config m set.empty [] [] counts (consistent_nothing m (no_versions m c.new-2.ensures)) in
    subst (λ (x : Configured). IsConsistent (as_retained 0 0 x m c.new-3.result.items) m c.new.result.items counts) (sym c.empty.ensures)
    (subst (λ (h : History). IsConsistent (as_retained 0 0 empty_config m h) m c.new.result.items counts) (sym c.new-3.ensures.items)
    (subst (λ (ds : List ConfigAt). IsConsistent (as_retained 0 0 empty_config m []) m ds counts) (sym c.new.ensures.items) consistent))

pub returns : goal.returns
returns c =
    let m = c.new-2.result in
    ap (λ (x : Configured). as_retained 0 0 x m c.new-3.result.items) c.empty.ensures
    ∙ ap (λ (h : History). as_retained 0 0 empty_config m h) c.new-3.ensures.items
    ∙ as_retained_is 0 0 empty_config m set.empty [] (consistent_nothing m (no_versions m c.new-2.ensures)).versions
