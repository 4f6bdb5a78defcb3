-- The way back along a trail.
use Rattle.std.proofs.Common.{◌≡◌, ℕ, ◌<◌, ◌≤◌, ◌+◌, List, [], ◌∷◌, length, get_or, ap, ◌∙◌, sym, subst, ⊎_elim, arith, refl}
use Rattle.std.specs.Prelude.{Contains, Bool, true, All, Any}
use Rattle.std.proofs.lemmas.Bool.{cases_lt}
use Rattle.std.proofs.lemmas.List.{get_or_default}
use Rattle.std.proofs.lemmas.List.Elements.{All-contains}
use Rattle.meaning.proofs.Lists.{contains_cases, contains_none}
use Rattle.strata.specs.declared.graph.Step.{Step}
use Rattle.strata.specs.declared.search.Seen.{Seen}
use Rattle.strata.specs.Graph.{HasStep, IsChain, IsCycle, NoneBack, NoneBackTo, Walk}
use Rattle.strata.specs.inside.Search.{HasNode, IsTrail, IsReached, IsWay, IsMarked, IsClosing}
use Rattle.strata.proofs.Trails.{walked}

module _ (steps : List Step) (start : ℕ) (seen : List Seen) (trail : IsTrail steps start seen) where
  pub way_none : (p : ℕ) → IsWay steps start seen p p []
  way_none p = record {
    chain = λ d. refl;
    steps_in = λ s c. absurd (contains_none s c);
    apart = tt;
    ends = λ s c. absurd (contains_none s c);
  }

  pub way_more : (i p : ℕ) (way : List Step) (x y : Seen) → 0 < i → i < length seen → x ≡ get_or seen i x → y ≡ get_or seen x.by y → IsWay steps start seen i p way → IsWay steps start seen x.by p (record { from = y.node; to = x.node; subtracted = x.subtracted } ∷ way)
  way_more i p way x y pos lt isx isy w =
      let s : Step = record { from = y.node; to = x.node; subtracted = x.subtracted } in
      let x_at : (d : Seen) → get_or seen i d ≡ x = λ d. get_or_default seen i d x lt ∙ sym isx in
      let back : x.by < i = subst (λ z. z.by < i) (x_at x) (trail.earlier i x pos lt) in
      let low : x.by < length seen = omega (arith, back, lt) in
      let y_at : (d : Seen) → get_or seen x.by d ≡ y = λ d. get_or_default seen x.by d y low ∙ sym isy in
      let step : HasStep steps y.node x.subtracted x.node = by_step x_at y_at pos lt in
      record {
        chain = λ d. (sym (ap (λ z. z.node) (y_at d)), subst (λ z. IsChain z.node way (get_or seen p d).node) (x_at d) (w.chain d));
        steps_in = λ t c. ⊎_elim (λ e. subst (Contains steps) e step) (w.steps_in t) (contains_cases s t way c);
        apart = (λ t c e. let j = w.ends t c in trail.apart i j.0 x j.1 j.2 (ap (λ z. z.node) (x_at x) ∙ e ∙ sym (j.3 x)), w.apart);
        ends = λ t c. ⊎_elim (λ e. (i, back, lt, λ d. ap (λ z. z.node) (x_at d) ∙ ap (λ z. z.to) e)) (λ h. let j = w.ends t h in (j.0, omega (arith, back, j.1), j.2, j.3)) (contains_cases s t way c);
      }
    where
      by_step : ((d : Seen) → get_or seen i d ≡ x) → ((d : Seen) → get_or seen x.by d ≡ y) → 0 < i → i < length seen → HasStep steps y.node x.subtracted x.node
      by_step x_at y_at pos lt =
          let raw = trail.by_step i x pos lt in
          let one = subst (λ z. HasStep steps (get_or seen z.by x).node z.subtracted z.node) (x_at x) raw in
          subst (λ z. HasStep steps z.node x.subtracted x.node) (y_at x) one

-- a subtracted step and a way back are a cycle
pub cycle_of : (steps : List Step) (seen : List Seen) (s : Step) (p : ℕ) (way : List Step) → IsTrail steps s.to seen → Contains steps s → s.subtracted ≡ true → p < length seen → ((d : Seen) → (get_or seen p d).node ≡ s.from) → IsWay steps s.to seen 0 p way → IsCycle steps s way
cycle_of steps seen s p way trail has sub lt at w =
    let d : Seen = record { node = 0; by = 0; subtracted = true } in
    record {
      subtracted = sub;
      chain = (refl, subst (λ a. IsChain a way s.from) (trail.first d) (subst (λ b. IsChain (get_or seen 0 d).node way b) (at d) (w.chain d)));
      steps_in = λ t c. ⊎_elim (λ e. subst (Contains steps) e has) (w.steps_in t) (contains_cases s t way c);
      apart = (λ t c e. let j = w.ends t c in trail.apart 0 j.0 d j.1 j.2 (trail.first d ∙ e ∙ sym (j.3 d)), w.apart);
    }

-- where no start of a subtracted step to the relation was reached from it, no walk goes back
pub none_back_to : (steps : List Step) (to : ℕ) (seen : List Seen) (marks : List Bool) → IsReached steps to seen → IsMarked marks seen → ((s : Step) → IsClosing steps to marks s → ⊥) → NoneBackTo steps to
none_back_to steps to seen marks reached marked none a step w =
    let d : Seen = record { node = 0; by = 0; subtracted = true } in
    let start : HasNode seen to = (get_or seen 0 d, (0, reached.trail.some, get_or_default seen 0 (get_or seen 0 d) d reached.trail.some), reached.trail.first d) in
    none (record { from = a; to = to; subtracted = true }) (record { has = step; subtracted = refl; ends = refl; marked = (marked a).1 (walked steps to seen reached w start) })

pub closing_reached : (steps : List Step) (to : ℕ) (seen : List Seen) (marks : List Bool) (s : Step) → IsMarked marks seen → IsClosing steps to marks s → HasNode seen s.from
closing_reached steps to seen marks s marked closing = (marked s.from).0 closing.marked

-- a closing step and the way back to its start
pub closed_cycle : (steps : List Step) (to : ℕ) (seen : List Seen) (marks : List Bool) (s : Step) (p : ℕ) (way : List Step) → IsReached steps to seen → IsClosing steps to marks s → p < length seen → ((d : Seen) → (get_or seen p d).node ≡ s.from) → IsWay steps to seen 0 p way → IsCycle steps s way
closed_cycle steps to seen marks s p way reached closing lt at w =
    let back = sym closing.ends in
    cycle_of steps seen s p way (subst (λ a. IsTrail steps a seen) back reached.trail) closing.has closing.subtracted lt at (subst (λ a. IsWay steps a seen 0 p way) back w)

pub none_subtracted : (steps : List Step) (to : ℕ) → (Any (λ s. (s.subtracted ≡ true) × (s.to ≡ to)) steps → ⊥) → NoneBackTo steps to
none_subtracted steps to none a (k, lt, e) w = none (k, record { from = a; to = to; subtracted = true }, lt, e, (refl, refl))

pub none_back_all : (steps : List Step) (count : ℕ) → All (λ s. (s.from < count) × (s.to < count)) steps → ((b : ℕ) → b < count → NoneBackTo steps b) → NoneBack steps
none_back_all steps count in_range none a b step w = none b (All-contains (λ (s : Step). (s.from < count) × (s.to < count)) steps (record { from = a; to = b; subtracted = true }) in_range step).1 a step w
