use Rattle.std.proofs.Common.{◌≡◌, ℕ, ◌-◌, List, [], ◌∷◌, take, drop, refl, ap, ◌∙◌, arith}
use Rattle.std.proofs.lemmas.List.{take_all}
use Rattle.names.specs.declared.tuple.Tuple.{Tuple}
use Rattle.meaning.specs.TupleSet as set
use Rattle.meaning.specs.Config.{Configured}
use Rattle.meaning.specs.History.{History, after_commits}
use Rattle.meaning.specs.Snap.{Snap}
use Rattle.meaning.proofs.TupleSets.{from_items}
use Rattle.rows.specs.Loads.{retained_of}
use Rattle.rows.specs.Retained.{Retained, newest, snap_at, commits_between}
use Rattle.history_tests.proofs.naming.loaded_of.Goals as goal

none_taken : (h : History) → take 0 h ≡ []
none_taken [] = refl
none_taken (c ∷ h) = refl

none_dropped : (h : History) → drop 0 h ≡ h
none_dropped [] = refl
none_dropped (c ∷ h) = refl

module _ (r : Retained) (floor : ℕ) (at : floor ≡ r.floor) where
  at_floor : floor - r.floor ≡ 0
  at_floor = omega (arith, at)

  floor_holds : snap_at r floor ≡ r.base
  floor_holds = ap (after_commits r.base) (ap (λ n. take n r.commits) at_floor ∙ none_taken r.commits)

  all_between : (last : ℕ) → last ≡ newest r → commits_between r floor last ≡ r.commits
  all_between last is =
      ap (take (last - floor)) (ap (λ n. drop n r.commits) at_floor ∙ none_dropped r.commits)
      ∙ take_all (last - floor) r.commits (omega (arith, at, is))

  as_it_is : (number last : ℕ) (view : Snap) (config : Configured) (ts : List Tuple) (h : History) → number ≡ r.number → last ≡ newest r → view ≡ snap_at r floor → config ≡ view.config → ts ≡ set.items view.tuples
      → h ≡ commits_between r floor last → retained_of (record { number = number; floor = floor; config = config; tuples = ts; commits = h }) ≡ r
  as_it_is number last view config ts h numbered is holds config_is tuples_are commits_are =
      let base : view ≡ r.base = holds ∙ floor_holds in
      let same_config : config ≡ r.base.config = config_is ∙ ap (λ (s : Snap). s.config) base in
      let same_tuples : set.from_list ts ≡ r.base.tuples = ap set.from_list (tuples_are ∙ ap (λ (s : Snap). set.items s.tuples) base) ∙ from_items r.base.tuples in
      let same_commits : h ≡ r.commits = commits_are ∙ all_between last is in
      λ i. record { number = numbered i; floor = at i; base = record { config = same_config i; tuples = same_tuples i }; commits = same_commits i }

pub returns : goal.returns
returns c =
    as_it_is c.args.rows.now c.floor-floor.result c.floor-floor.ensures c.number.result c.newest.result c.at-view.result c.in_ok-again.field-0 c.of.result c.of-2.result
    c.number.ensures c.newest.ensures.newest c.at-view.ensures (c.in_ok-again.ensures ∙ c.config.ensures.config) (c.of.ensures ∙ c.in_ok-tuples.ensures)
    (c.of-2.ensures ∙ c.in_ok-commits.ensures ∙ c.commits.ensures.commits)
