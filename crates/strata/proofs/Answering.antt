-- Graphs of the same steps have the same answers, and none has both kinds of answer.
use Rattle.std.proofs.Common.{◌≡◌, ℕ, suc, ◌<◌, ◌≤◌, ◌+◌, List, [], ◌∷◌, get_or, refl, arith, sym, subst}
use Rattle.std.specs.Prelude.{Bool, true, false, Contains, All, ◌↔◌}
use Rattle.std.proofs.lemmas.List.Elements.{All-contains, Contains-get_or}
use Rattle.meaning.specs.Levels.{Path, stop, plain, subtracted, IsLevel}
use Rattle.meaning.proofs.LevelLemmas.{level_map}
use Rattle.meaning.proofs.Lists.{contains_here, contains_there}
use Rattle.strata.specs.declared.graph.Step.{Step}
use Rattle.strata.specs.Graph.{HasStep, AreLevels, IsCertificate, IsCycle, IsChain}

pub same_levels : (kept steps : List Step) → ((s : Step) → Contains kept s ↔ Contains steps s) → (count : ℕ) (levels : List ℕ) → AreLevels kept count levels → AreLevels steps count levels
same_levels kept steps same count levels (long, are) =
    (long, λ r lt. level_map (HasStep kept) (HasStep steps) (λ (x : ℕ). x) (λ a b s h. (same (record { from = a; to = b; subtracted = s })).0 h) (λ a s q h. (q, (same (record { from = a; to = q; subtracted = s })).1 h, refl)) r (get_or levels r 0) (are r lt))

pub same_certificate : (kept steps : List Step) → ((s : Step) → Contains kept s ↔ Contains steps s) → (cycle : List Step) → IsCertificate kept cycle → IsCertificate steps cycle
same_certificate kept steps same [] h = h
same_certificate kept steps same (s ∷ ss) cycle = record {
  subtracted = cycle.subtracted;
  chain = cycle.chain;
  steps_in = λ t c. (same t).0 (cycle.steps_in t c);
  apart = cycle.apart;
}

pub same_range : (kept steps : List Step) → ((s : Step) → Contains kept s ↔ Contains steps s) → (P : Step → Type 0) → All P steps → All P kept
same_range kept steps same P all k d lt = All-contains P steps (get_or kept k d) all ((same (get_or kept k d)).0 (Contains-get_or kept k d lt))

-- a path from the end of a chain is at least as long from its start
along : (steps : List Step) (a b : ℕ) (ss : List Step) (n : ℕ) → IsChain a ss b → ((s : Step) → Contains ss s → Contains steps s) → Path (HasStep steps) b n → (m : ℕ) × (n ≤ m) × Path (HasStep steps) a m
along steps a b [] n chain within p = (n, omega arith, subst (λ x. Path (HasStep steps) x n) (sym chain) p)
along steps a b (s ∷ ss) n chain within p =
    let rest = along steps s.to b ss n chain.1 (λ t c. within t (contains_there s t ss c)) p in
    by_sign s.subtracted (subst (λ x. HasStep steps x s.subtracted s.to) chain.0 (within s (contains_here s ss))) rest
  where
    by_sign : (sign : Bool) → HasStep steps a sign s.to → (m : ℕ) × (n ≤ m) × Path (HasStep steps) s.to m → (m : ℕ) × (n ≤ m) × Path (HasStep steps) a m
    by_sign true step (m, le, q) = (suc m, omega (arith, le), subtracted step q)
    by_sign false step (m, le, q) = (m, le, plain step q)

-- a cycle that begins with a subtracted step makes each path longer
longer : (steps : List Step) (s : Step) (ss : List Step) (n : ℕ) → IsCycle steps s ss → Path (HasStep steps) s.from n → (m : ℕ) × (n < m) × Path (HasStep steps) s.from m
longer steps s ss n cycle p =
    let rest = along steps s.to s.from ss n cycle.chain.1 (λ t c. cycle.steps_in t (contains_there s t ss c)) p in
    let step : HasStep steps s.from true s.to = subst (λ sign. HasStep steps s.from sign s.to) cycle.subtracted (cycle.steps_in s (contains_here s ss)) in
    (suc rest.0, omega (arith, rest.1), subtracted step rest.2)

pub one_kind : (steps : List Step) (count : ℕ) (levels : List ℕ) (cycle : List Step) → All (λ s. (s.from < count) × (s.to < count)) steps → AreLevels steps count levels → IsCertificate steps cycle → ⊥
one_kind steps count levels [] in_range are h = h
one_kind steps count levels (s ∷ ss) in_range (long, are) cycle =
    let lt = (All-contains (λ (t : Step). (t.from < count) × (t.to < count)) steps s in_range (cycle.steps_in s (contains_here s ss))).0 in
    let level = are s.from lt in
    let more = longer steps s ss (get_or levels s.from 0) cycle level.path in
    let most : more.0 ≤ get_or levels s.from 0 = level.greatest more.0 more.2 in
    absurd (omega (arith, more.1, most))
