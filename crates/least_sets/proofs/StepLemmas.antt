-- What steps in any order keep, and what they come to.
use Rattle.std.proofs.Common.{ℕ, ◌≡◌, ◌<◌, ◌≤◌, Bool, true, false, ◌&&◌, nat_eq, refl, sym, ◌∙◌, ap, subst, arith, ⊎_elim}
use Rattle.std.proofs.lemmas.Bool.{cases_Bool, or_cases, or_left, false≢true, eqb-true, and_parts, and_from}
use Rattle.least_sets.specs.World.{Fact, has, plain_of}
use Rattle.least_sets.specs.Least.{IsLevelled, Derived, outside, follows}
use Rattle.least_sets.specs.Steps.{given, IsStepAt, StepsTo, none, then}
use Rattle.least_sets.proofs.Gives.{gives_agree, gives_more}

-- a step takes nothing away
pub step_grows : (fact : Fact) (n : ℕ) (b c : ℕ → ℕ → Bool) → IsStepAt fact n b c → (user m : ℕ) → b user m ≡ true → c user m ≡ true
step_grows fact n b c step user m h = ⊎_elim
    (λ e. let same : n ≡ m = eqb-true n m e in
    subst (λ i. c user i ≡ true) same (step.more user ∙ or_left (b user n) (given fact b user) (subst (λ i. b user i ≡ true) (sym same) h)))
    (λ e. step.same user m e ∙ h)
    (cases_Bool (nat_eq n m))

-- a step leaves a node of another level as it is
pub step_else : (fact : Fact) (n : ℕ) (b c : ℕ → ℕ → Bool) → IsStepAt fact n b c → (user m : ℕ) → (n ≡ m → ⊥) → c user m ≡ b user m
step_else fact n b c step user m apart = ⊎_elim (λ e. absurd (apart (eqb-true n m e))) (λ e. step.same user m e) (cases_Bool (nat_eq n m))

-- what was derived up to a level stays so while the lower levels and the nodes outside stay
derived_keep : (world : ℕ → Fact) (part : ℕ → Bool) (k user : ℕ) (b c : ℕ → Bool) → IsLevelled world
    → ((m : ℕ) → (world m).level < k → c m ≡ b m) → ((m : ℕ) → part m ≡ false → c m ≡ b m)
    → (n : ℕ) → (world n).level ≤ k → Derived world part user b n → Derived world part user c n
derived_keep world part k user b c levels low off n le (outside o h) = outside o (off n o ∙ h)
derived_keep world part k user b c levels low off n le (follows pn from named below g) =
    follows pn from named
    (λ m h. derived_keep world part k user b c levels low off m (let l : (world m).level ≤ (world n).level = levels.plain n m (named m h) in omega arith) (below m h))
    (gives_agree (has (world n).own user) from from c b (world n).shape (λ m h. refl)
    (λ m h. low m (let lt : (world m).level < (world n).level = levels.taken n m h in omega arith)) ∙ g)

-- all that is held in the part is of a level at most k, and derived
pub AreDerivedTo : (ℕ → Fact) → (ℕ → Bool) → ℕ → ℕ → (ℕ → Bool) → Type 0
AreDerivedTo world part k user set = (n : ℕ) → part n ≡ true → set n ≡ true → ((world n).level ≤ k) × Derived world part user set n

step_derived : (world : ℕ → Fact) (part : ℕ → Bool) (k user n : ℕ) (b c : ℕ → ℕ → Bool)
    → IsLevelled world → IsStepAt (world n) n b c → part n ≡ true → (world n).level ≡ k
    → AreDerivedTo world part k user (b user) → AreDerivedTo world part k user (c user)
unfolding AreDerivedTo
step_derived world part k user n b c levels step pn at all i pi held = ⊎_elim
    (λ e. let same : n ≡ i = eqb-true n i e in
    let held_n : c user n ≡ true = subst (λ j. c user j ≡ true) (sym same) held in
    subst (λ j. ((world j).level ≤ k) × Derived world part user (c user) j) same (⊎_elim
    (λ h. kept n pn h)
    (λ g. (let le : (world n).level ≤ k = omega arith in le, new_one g))
    (or_cases (b user n) (given (world n) b user) (sym (step.more user) ∙ held_n))))
    (λ e. kept i pi (sym (step.same user i e) ∙ held))
    (cases_Bool (nat_eq n i))
  where
    low : (m : ℕ) → (world m).level < k → c user m ≡ b user m
    low m lt = step_else (world n) n b c step user m (λ e. let s : (world n).level ≡ (world m).level = ap (λ x. (world x).level) e in absurd (omega arith))

    off : (m : ℕ) → part m ≡ false → c user m ≡ b user m
    off m o = step_else (world n) n b c step user m (λ e. false≢true (sym (subst (λ x. part x ≡ false) (sym e) o) ∙ pn))

    kept : (m : ℕ) → part m ≡ true → b user m ≡ true → ((world m).level ≤ k) × Derived world part user (c user) m
    kept m pm h = let a = all m pm h in (a.0, derived_keep world part k user (b user) (c user) levels low off m a.0 a.1)

    any : (m : ℕ) → b user m ≡ true → Derived world part user (c user) m
    any m h = ⊎_elim (λ pm. (kept m pm h).1) (λ o. outside o (off m o ∙ h)) (cases_Bool (part m))

    from : ℕ → Bool
    from m = b user m && has (plain_of (world n).shape) m

    new_one : given (world n) b user ≡ true → Derived world part user (c user) n
    new_one g = follows pn from
        (λ m h. (and_parts (b user m) (has (plain_of (world n).shape) m) h).1)
        (λ m h. any m (and_parts (b user m) (has (plain_of (world n).shape) m) h).0)
        (gives_agree (has (world n).own user) from from (c user) (b user) (world n).shape (λ m h. refl)
        (λ m h. low m (let lt : (world m).level < (world n).level = levels.taken n m h in omega arith))
        ∙ gives_more (has (world n).own user) (b user) from (b user) (world n).shape
        (λ m h f. and_from (b user m) (has (plain_of (world n).shape) m) f h) g)

-- steps of a level change no other level, and no node outside
pub steps_keep : {world : ℕ → Fact} {part : ℕ → Bool} {k : ℕ} {b c : ℕ → ℕ → Bool}
    → StepsTo world part k b c → (user m : ℕ) → ((part m ≡ true) → (world m).level ≡ k → ⊥) → c user m ≡ b user m
steps_keep none user m apart = refl
steps_keep {world} {part} {k} {b} {c} (then {middle = s} n before pn at step) user m apart =
    step_else (world n) n s c step user m (λ e. apart (subst (λ i. part i ≡ true) e pn) (subst (λ i. (world i).level ≡ k) e at))
    ∙ steps_keep before user m apart

pub steps_grow : {world : ℕ → Fact} {part : ℕ → Bool} {k : ℕ} {b c : ℕ → ℕ → Bool}
    → StepsTo world part k b c → (user m : ℕ) → b user m ≡ true → c user m ≡ true
steps_grow none user m h = h
steps_grow {world} {c = c} (then {middle = s} n before pn at step) user m h = step_grows (world n) n s c step user m (steps_grow before user m h)

pub steps_derived : {world : ℕ → Fact} {part : ℕ → Bool} {k : ℕ} {b c : ℕ → ℕ → Bool} (user : ℕ)
    → IsLevelled world → StepsTo world part k b c
    → AreDerivedTo world part k user (b user) → AreDerivedTo world part k user (c user)
steps_derived user levels none all = all
steps_derived {world} {part} {k} {b} {c} user levels (then {middle = s} n before pn at step) all =
    step_derived world part k user n s c levels step pn at (steps_derived user levels before all)

pub derived_from : (world : ℕ → Fact) (part : ℕ → Bool) (k user : ℕ) (set : ℕ → Bool)
    → ((n : ℕ) → part n ≡ true → set n ≡ true → ((world n).level ≤ k) × Derived world part user set n) → AreDerivedTo world part k user set
unfolding AreDerivedTo
derived_from world part k user set f = f

pub derived_to : (world : ℕ → Fact) (part : ℕ → Bool) (k user : ℕ) (set : ℕ → Bool) → AreDerivedTo world part k user set
    → (n : ℕ) → part n ≡ true → set n ≡ true → Derived world part user set n
unfolding AreDerivedTo
derived_to world part k user set all n pn h = (all n pn h).1

pub steps_join : {world : ℕ → Fact} {part : ℕ → Bool} {k : ℕ} {a b c : ℕ → ℕ → Bool}
    → StepsTo world part k a b → StepsTo world part k b c → StepsTo world part k a c
steps_join first none = first
steps_join first (then {middle = s} n before pn at step) = then {middle = s} n (steps_join first before) pn at step
