-- Levels that are solved.
use Rattle.std.proofs.Common.{ℕ, ◌≡◌, ◌<◌, ◌≤◌, ◌+◌, Bool, true, false, refl, sym, ◌∙◌, arith, ⊎_elim}
use Rattle.std.proofs.lemmas.Bool.{cases_lt, false≢true}
use Rattle.least_sets.specs.World.{Fact, gives, has}
use Rattle.least_sets.specs.Least.{IsLevelled, IsLeastIn, Derived}
use Rattle.least_sets.specs.Steps.{given, StepsTo}
use Rattle.least_sets.proofs.Gives.{gives_agree}
use Rattle.least_sets.proofs.StepLemmas.{steps_keep, steps_derived, derived_from, derived_to}

-- the levels below k are solved, and the nodes of the others hold nobody yet
pub record SolvedBelow (world : ℕ → Fact) (part : ℕ → Bool) (k : ℕ) (first now : ℕ → ℕ → Bool) : Type 0 where
  pub closed : (user n : ℕ) → part n ≡ true → (world n).level < k → gives (has (world n).own user) (now user) (now user) (world n).shape ≡ true → now user n ≡ true
  pub derived : (user n : ℕ) → part n ≡ true → now user n ≡ true → Derived world part user (now user) n
  pub later : (user m : ℕ) → part m ≡ true → k ≤ (world m).level → now user m ≡ false
  pub beside : (user m : ℕ) → part m ≡ false → now user m ≡ first user m

pub solved_none : (world : ℕ → Fact) (part : ℕ → Bool) (first : ℕ → ℕ → Bool)
    → ((user m : ℕ) → part m ≡ true → first user m ≡ false) → SolvedBelow world part 0 first first
solved_none world part first empty = record {
  closed = λ user n pn lt g. absurd (omega arith);
  derived = λ user n pn h. absurd (false≢true (sym (empty user n pn) ∙ h));
  later = λ user m pm le. empty user m pm;
  beside = λ user m off. refl;
}

pub solved_more : (world : ℕ → Fact) (part : ℕ → Bool) (k : ℕ) (first now next : ℕ → ℕ → Bool) → IsLevelled world
    → SolvedBelow world part k first now → StepsTo world part k now next
    → ((n : ℕ) → part n ≡ true → (world n).level ≡ k → (user : ℕ) → given (world n) next user ≡ true → next user n ≡ true)
    → SolvedBelow world part (k + 1) first next
solved_more world part k first now next levels so_far steps settled = record {
  closed = λ user n pn lt g. ⊎_elim
      (λ below. low user n below ∙ so_far.closed user n pn below
      (sym (gives_agree (has (world n).own user) (next user) (now user) (next user) (now user) (world n).shape
      (λ m h. low user m (let le : (world m).level ≤ (world n).level = levels.plain n m h in omega arith))
      (λ m h. low user m (let l : (world m).level < (world n).level = levels.taken n m h in omega arith))) ∙ g))
      (λ ge. settled n pn (let at : (world n).level ≡ k = omega arith in at) user g)
      (cases_lt ((world n).level) k);
  derived = λ user. derived_to world part k user (next user) (steps_derived user levels steps
      (derived_from world part k user (now user) (λ n pn h. (
        ⊎_elim
            (λ lt. let le : (world n).level ≤ k = omega arith in le)
            (λ ge. absurd (false≢true (sym (so_far.later user n pn ge) ∙ h)))
            (cases_lt ((world n).level) k),
        so_far.derived user n pn h,
      ))));
  later = λ user m pm le. steps_keep steps user m (λ p ak. absurd (omega arith)) ∙ so_far.later user m pm (omega arith);
  beside = λ user m off. steps_keep steps user m (λ pm ak. false≢true (sym off ∙ pm)) ∙ so_far.beside user m off;
}
  where
    low : (user m : ℕ) → (world m).level < k → next user m ≡ now user m
    low user m lt = steps_keep steps user m (λ pm ak. absurd (omega arith))

pub solved_all : (world : ℕ → Fact) (part : ℕ → Bool) (k : ℕ) (first now : ℕ → ℕ → Bool)
    → SolvedBelow world part k first now → ((n : ℕ) → part n ≡ true → (world n).level < k)
    → (user : ℕ) → IsLeastIn world part user (now user)
solved_all world part k first now solved below user = record {
  closed = λ n pn g. solved.closed user n pn (below n pn) g;
  derived = solved.derived user;
}
