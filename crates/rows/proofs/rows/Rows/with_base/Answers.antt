use Rattle.std.proofs.Common.{◌≡◌, ℕ, List, [], length, ap, sym, subst, ◌∙◌}
use Rattle.names.specs.declared.tuple.Tuple.{Tuple}
use Rattle.meaning.specs.TupleSet as set
use Rattle.meaning.specs.Config.{Configured}
use Rattle.meaning.specs.History.{History}
use Rattle.rows.specs.declared.config_at.ConfigAt.{ConfigAt}
use Rattle.rows.specs.declared.loaded.Loaded.{Loaded}
use Rattle.rows.specs.declared.loaded.Counts.{Counts}
use Rattle.versions.specs.Versions.{versions_at, base_versions}
use Rattle.rows.specs.Representation.{as_retained, IsConsistent}
use Rattle.versions.proofs.VersionRuns.{take_none}
use Rattle.rows.proofs.Committing.{consistent_as, as_retained_is}
use Rattle.rows.proofs.Loading.{consistent_none}
use Rattle.rows.proofs.rows.Rows.with_base.Goals as goal

pub invariant_of-result : goal.invariant_of-result
invariant_of-result c =
    let l : Loaded = c.args.loaded.now in
    let m = c.in_ok-of_base.field-0 in
    let n : ℕ = length c.as_slice-tuples.result.now in
    let counts : Counts = record { rows = n; tuples = n } in
    let versions : (q : Tuple) → versions_at m q ≡ base_versions (set.contains (set.from_list l.tuples) q) = λ q. c.in_ok-of_base.ensures q ∙ ap (λ (ts : List Tuple). base_versions (set.contains (set.from_list ts) q)) c.as_slice-tuples.ensures in
    let long : n ≡ length l.tuples = ap (λ (ts : List Tuple). length ts) c.as_slice-tuples.ensures in
    let consistent : IsConsistent (as_retained l.number l.floor l.config m []) m [] counts = consistent_as l.number l.floor l.config m (set.from_list l.tuples) [] [] counts (consistent_none l m counts c.requires versions long long) in
    subst (λ (x : Configured). IsConsistent (as_retained l.number l.floor x m c.new-2.result.items) m c.new.result.items counts) (sym c.in_ok-again.ensures)
    (subst (λ (h : History). IsConsistent (as_retained l.number l.floor l.config m h) m c.new.result.items counts) (sym c.new-2.ensures.items)
    (subst (λ (ds : List ConfigAt). IsConsistent (as_retained l.number l.floor l.config m []) m ds counts) (sym c.new.ensures.items) consistent))

pub returns : goal.returns
returns c =
    let l : Loaded = c.args.loaded.now in
    let m = c.in_ok-of_base.field-0 in
    let n : ℕ = length c.as_slice-tuples.result.now in
    let counts : Counts = record { rows = n; tuples = n } in
    let versions : (q : Tuple) → versions_at m q ≡ base_versions (set.contains (set.from_list l.tuples) q) = λ q. c.in_ok-of_base.ensures q ∙ ap (λ (ts : List Tuple). base_versions (set.contains (set.from_list ts) q)) c.as_slice-tuples.ensures in
    let long : n ≡ length l.tuples = ap (λ (ts : List Tuple). length ts) c.as_slice-tuples.ensures in
    ap (λ (x : Configured). as_retained l.number l.floor x m c.new-2.result.items) c.in_ok-again.ensures
    ∙ ap (λ (h : History). as_retained l.number l.floor l.config m h) c.new-2.ensures.items
    ∙ as_retained_is l.number l.floor l.config m (set.from_list l.tuples) [] (consistent_none l m counts c.requires versions long long).versions
    ∙ ap (λ (h : History). record { number = l.number; floor = l.floor; base = record { config = l.config; tuples = set.from_list l.tuples }; commits = h }) (sym (take_none l.commits))
