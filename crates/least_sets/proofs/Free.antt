-- How many numbers fail a test.
use Rattle.std.proofs.Common.{ℕ, zero, suc, ◌≡◌, ◌<◌, ◌≤◌, ◌+◌, Bool, true, false, refl, sym, subst, arith, ⊎_elim}
use Rattle.std.proofs.lemmas.Bool.{cases_eq, false≢true}
use Rattle.least_sets.specs.Steps.{lack, free}

one_le : (p q : Bool) → (p ≡ true → q ≡ true) → lack q ≤ lack p
one_le true true f = omega arith
one_le true false f = absurd (false≢true (f refl))
one_le false true f = omega arith
one_le false false f = omega arith

pub free_le : (n : ℕ) (p q : ℕ → Bool) → ((u : ℕ) → p u ≡ true → q u ≡ true) → free n q ≤ free n p
unfolding free
free_le zero p q f = omega arith
free_le (suc n) p q f = let a : free n q ≤ free n p = free_le n p q f in let b : lack (q n) ≤ lack (p n) = one_le (p n) (q n) (f n) in omega arith

one_lt : (p q : Bool) → p ≡ false → q ≡ true → lack q < lack p
one_lt true q e f = absurd (false≢true (sym e))
one_lt false true e f = omega arith
one_lt false false e f = absurd (false≢true f)

pub free_lt : (n : ℕ) (p q : ℕ → Bool) → ((u : ℕ) → p u ≡ true → q u ≡ true) → (u : ℕ) → u < n → p u ≡ false → q u ≡ true → free n q < free n p
unfolding free
free_lt zero p q f u lt e g = absurd (omega arith)
free_lt (suc n) p q f u lt e g = ⊎_elim
    (λ same. let a : free n q ≤ free n p = free_le n p q f in
    let b : lack (q n) < lack (p n) = one_lt (p n) (q n) (subst (λ i. p i ≡ false) same e) (subst (λ i. q i ≡ true) same g) in omega arith)
    (λ apart. let le : u < n = omega arith in let a : free n q < free n p = free_lt n p q f u le e g in let b : lack (q n) ≤ lack (p n) = one_le (p n) (q n) (f n) in omega arith)
    (cases_eq u n)
