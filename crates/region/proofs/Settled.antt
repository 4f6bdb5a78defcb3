-- Nodes told of that are settled.
use Rattle.std.proofs.Common.{ℕ, ◌≡◌, ◌<◌, Bool, true, false, List, sym, ◌∙◌, ap, subst, arith}
use Rattle.std.specs.Prelude.{Some}
use Rattle.std.specs.List.{slice_get}
use Rattle.least_sets.specs.World.{Fact}
use Rattle.std.proofs.lemmas.Bool.{false≢true}
use Rattle.least_sets.specs.Steps.{given}
use Rattle.least_sets.proofs.Solved.{SolvedBelow}
use Rattle.region.specs.declared.rule.Told.{Told}
use Rattle.region.specs.Rules.{fact_of}
use Rattle.region.specs.Steps.{is_told, Tells, IsSettled}
use Rattle.region.proofs.Rooms.{tells_at, place_of}

-- a node told of is as told, and settled
pub settled_at : (world : ℕ → Fact) (told : List Told) (k : ℕ) (sets : ℕ → ℕ → Bool) → Tells world told → IsSettled told k sets
    → (n : ℕ) → is_told told n ≡ true → (world n).level ≡ k → (user : ℕ) → given (world n) sets user ≡ true → sets user n ≡ true
settled_at world told k sets tells settled n is at user g =
    let p = place_of told n is in
    let fact : world n ≡ fact_of p.1 = subst (λ i. world i ≡ fact_of p.1) p.3 (tells_at world told tells p.0 p.1 p.2) in
    subst (λ i. sets user i ≡ true) p.3
    (settled p.0 p.1 p.2 (sym (ap (λ (f : Fact). f.level) fact) ∙ at) user (subst (λ (f : Fact). given f sets user ≡ true) fact g))

-- the level of a node told of
pub level_below : (world : ℕ → Fact) (told : List Told) (k : ℕ) → Tells world told → ((i : ℕ) (t : Told) → slice_get told i ≡ Some t → t.level < k)
    → (n : ℕ) → is_told told n ≡ true → (world n).level < k
level_below world told k tells all n is =
    let p = place_of told n is in
    let at : (world p.1.node).level ≡ p.1.level = ap (λ (f : Fact). f.level) (tells_at world told tells p.0 p.1 p.2) in
    subst (λ i. (world i).level < k) p.3 (let lt : p.1.level < k = all p.0 p.1 p.2 in omega arith)

-- to begin with nobody is held by the nodes of the part
pub solved_start : (world : ℕ → Fact) (part : ℕ → Bool) (first now : ℕ → ℕ → Bool)
    → ((user m : ℕ) → part m ≡ true → now user m ≡ false) → ((user m : ℕ) → part m ≡ false → now user m ≡ first user m) → SolvedBelow world part 0 first now
solved_start world part first now empty others = record {
  closed = λ user n pn lt g. absurd (omega arith);
  derived = λ user n pn h. absurd (false≢true (sym (empty user n pn) ∙ h));
  later = λ user m pm le. empty user m pm;
  beside = others;
}
