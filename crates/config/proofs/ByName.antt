-- Levels and cycles of a configuration's graph, by the names of its relations.
use Rattle.std.proofs.Common.{◌≡◌, ℕ, suc, ◌<◌, ◌≤◌, List, [], ◌∷◌, Bool, true, false, length, get_or, ap, ◌∙◌, sym, subst, refl, arith, ⊎_elim, true≢false}
use Rattle.std.specs.Prelude.{Contains, All, map, IsTrue, slice_index}
use Rattle.std.proofs.lemmas.Bool.{cases_lt}
use Rattle.std.proofs.lemmas.List.{get_or_past, get_or_default}
use Rattle.std.proofs.lemmas.List.Elements.{All-contains}
use Rattle.names.specs.declared.relation.RelationName.{RelationName}
use Rattle.names.specs.Names.{is_name}
use Rattle.names.specs.declared.cause.CycleStep.{CycleStep}
use Rattle.meaning.specs.Levels.{Path, plain, subtracted, IsLevel}
use Rattle.meaning.specs.Config.{Configured, Defined, Has, StepsTo}
use Rattle.meaning.specs.Config as dependence
use Rattle.meaning.proofs.LevelLemmas.{level_map}
use Rattle.meaning.proofs.Lists.{contains_here, contains_there, contains_map_back}
use Rattle.strata.specs.declared.graph.Step.{Step}
use Rattle.strata.specs.Graph.{HasStep, NoneBack, Walk, here, onward}
use Rattle.strata.specs.Graph as signed
use Rattle.strata.proofs.Bounds.{path_few}
use Rattle.config_text.specs.Order.{IsOrdered}
use Rattle.config_text.specs.Spelling.{AreNamed, IsNamed}
use Rattle.config.specs.Cycles.{IsChain, EndsApart, IsCertificate}
use Rattle.config.specs.inside.Graph.{nowhere, relation_at, name_at, IsGraph, step_by_name}
use Rattle.config.specs.Levels.{AreLevels}
use Rattle.config.proofs.Places.{has_at}
use Rattle.config.proofs.Distinct.{names_apart}

module _ (c : Configured) (named : AreNamed c) (ordered : IsOrdered c) (ends : (d : Defined) → Contains c.relations d → (sign : Bool) (r : RelationName) → StepsTo c d d.form sign r → Has c r) (steps : List Step) (graph : IsGraph c steps) where
  there : (a b : ℕ) (s : Bool) → HasStep steps a s b → dependence.Step c (name_at c a) s (name_at c b)
  there a b s h = let i = graph.sound (record { from = a; to = b; subtracted = s }) h in (relation_at c a, (has_at c a i.from, refl), i.step)

  -- a relation that is there is at a place
  place : (d : Defined) → Contains c.relations d → (k : ℕ) × (k < length c.relations) × (relation_at c k ≡ d)
  place d (k, lt, is) = (k, lt, get_or_default c.relations k nowhere d lt ∙ is)

  no_name : (d : Defined) → Contains c.relations d → d.rel ≡ nowhere.rel → ⊥
  no_name d has is =
      let name = (All-contains IsNamed c.relations d named.1 has).0 in
      let none = subst (λ (r : RelationName). IsTrue (is_name r.namespace)) is name.0 in
      true≢false (sym none)

  back : (a : ℕ) (s : Bool) (q : RelationName) → dependence.Step c (name_at c a) s q → (b : ℕ) × HasStep steps a s b × (name_at c b ≡ q)
  back a s q (d, (has, is), step) = ⊎_elim
      (λ lt.
      let from = place d has in
      let same : from.0 ≡ a = names_apart c ordered from.0 a from.1 lt (ap (λ (e : Defined). e.rel) from.2 ∙ is) in
      let at_a : relation_at c a ≡ d = subst (λ k. relation_at c k ≡ d) same from.2 in
      let end = ends d has s q step in
      let to = place end.0 end.1.0 in
      let at_q : name_at c to.0 ≡ q = ap (λ (e : Defined). e.rel) to.2 ∙ end.1.1 in (
        to.0,
        graph.each (record { from = a; to = to.0; subtracted = s }) (record {
          from = lt;
          to = to.1;
          step = subst (λ (e : Defined). StepsTo c e e.form s (name_at c to.0)) (sym at_a) (subst (StepsTo c d d.form s) (sym at_q) step);
        }),
        at_q,
      ))
      (λ past. absurd (no_name d has (is ∙ ap (λ (e : Defined). e.rel) (get_or_past c.relations a nowhere past))))
      (cases_lt a (length c.relations))

  pub levels_by_name : (levels : List ℕ) → signed.AreLevels steps (length c.relations) levels → AreLevels c levels
  levels_by_name levels are = record {
    long = sym are.0;
    each = λ i d lt at.
        let is : name_at c i ≡ d.rel = ap (λ (e : Defined). e.rel) (get_or_default c.relations i nowhere d lt ∙ at) in
        subst (λ r. IsLevel (dependence.Step c) r (slice_index levels i)) is (level_map (HasStep steps) (dependence.Step c) (name_at c) there back i (slice_index levels i) (are.1 i lt));
  }

  chain_by_name : (a b : ℕ) (ss : List Step) → signed.IsChain a ss b → ((s : Step) → Contains ss s → Contains steps s) → IsChain c (name_at c a) (map (step_by_name c) ss) (name_at c b)
  chain_by_name a b [] chain within = ap (name_at c) chain
  chain_by_name a b (s ∷ ss) chain within = (
    subst (λ x. dependence.Step c (name_at c x) s.subtracted (name_at c s.to)) chain.0 (there s.from s.to s.subtracted (within s (contains_here s ss))),
    chain_by_name s.to b ss chain.1 (λ t h. within t (contains_there s t ss h)),
  )

  apart_by_name : (ss : List Step) → signed.EndsApart ss → ((s : Step) → Contains ss s → Contains steps s) → EndsApart (map (step_by_name c) ss)
  apart_by_name [] apart within = tt
  apart_by_name (s ∷ ss) apart within = (
    λ t h same.
        let b = contains_map_back (step_by_name c) ss t h in
        let from = graph.sound s (within s (contains_here s ss)) in
        let to = graph.sound b.0 (within b.0 (contains_there s b.0 ss b.1)) in
        apart.0 b.0 b.1 (names_apart c ordered s.to b.0.to from.to to.to (same ∙ sym (ap (λ (u : CycleStep). u.to) b.2))),
    apart_by_name ss apart.1 (λ t h. within t (contains_there s t ss h)),
  )

  pub cycle_by_name : (cycle : List Step) → signed.IsCertificate steps cycle → IsCertificate c (map (step_by_name c) cycle)
  cycle_by_name [] h = h
  cycle_by_name (s ∷ ss) cycle = record {
    start = name_at c s.from;
    subtracted = cycle.subtracted;
    chain = chain_by_name s.from s.from (s ∷ ss) cycle.chain cycle.steps_in;
    apart = apart_by_name (s ∷ ss) cycle.apart cycle.steps_in;
  }

-- a walk makes no path shorter
along : (steps : List Step) {b a : ℕ} → Walk steps b a → (n : ℕ) → Path (HasStep steps) a n → (m : ℕ) × (n ≤ m) × Path (HasStep steps) b m
along steps here n p = (n, omega arith, p)
along steps (onward {a = a} {b = b} {c = c} {sign = sign} step walk) n p = by_sign sign step (along steps walk n p)
  where
    by_sign : (s : Bool) → HasStep steps a s b → (m : ℕ) × (n ≤ m) × Path (HasStep steps) b m → (m : ℕ) × (n ≤ m) × Path (HasStep steps) a m
    by_sign true step (m, le, q) = (suc m, omega (arith, le), subtracted step q)
    by_sign false step (m, le, q) = (m, le, plain step q)

none_back : (steps : List Step) (count : ℕ) (levels : List ℕ) → ((s : Step) → Contains steps s → s.from < count) → signed.AreLevels steps count levels → NoneBack steps
none_back steps count levels from are a b step walk =
    let level = are.1 a (from (record { from = a; to = b; subtracted = true }) step) in
    let more = along steps walk (get_or levels a 0) level.path in
    let most : suc more.0 ≤ get_or levels a 0 = level.greatest (suc more.0) (subtracted step more.2) in
    absurd (omega (arith, more.1, most))

-- a level is at most the number of steps
pub levels_small : (steps : List Step) (count bound : ℕ) (levels : List ℕ) → ((s : Step) → Contains steps s → s.from < count) → signed.AreLevels steps count levels → length steps < bound → All (λ l. l < bound) levels
levels_small steps count bound levels from are few k d lt =
    let level = are.1 k (omega (arith, lt, are.0)) in
    let most : get_or levels k 0 ≤ length steps = path_few steps (none_back steps count levels from are) k (get_or levels k 0) level.path in
    let same : get_or levels k d ≡ get_or levels k 0 = get_or_default levels k d 0 lt in
    omega (arith, most, same, few)

pub certificate_within : (steps cycle : List Step) → signed.IsCertificate steps cycle → (s : Step) → Contains cycle s → Contains steps s
certificate_within steps [] h s c = absurd h
certificate_within steps (t ∷ ts) cycle s c = cycle.steps_in s c
