-- The commits above a revision, one by one.
use Rattle.std.proofs.Common.{◌≡◌, ℕ, ◌+◌, ◌<◌, ◌≤◌, ◌⊎◌, inl, inr, [], ◌∷◌, ◌++◌, length, true, zero, suc, refl, ap, ◌∙◌, arith}
use Rattle.std.proofs.lemmas.Bool.{cases_lt}
use Rattle.store.specs.Written.{Written, commit_at, commits_above, brings_one}

pub one_more : (w : Written) (rev n : ℕ) → commits_above w rev (n + 1) ≡ commits_above w rev n ++ commit_at w (rev + (n + 1)) ∷ []
one_more w rev zero = ap (commits_above w rev) (let e : 0 + 1 ≡ suc 0 = omega arith in e) ∙ ap (λ k. commit_at w k ∷ []) (let e : rev + 1 ≡ rev + (0 + 1) = omega arith in e)
one_more w rev (suc n) =
    ap (commits_above w rev) (let e : suc n + 1 ≡ suc (n + 1) = omega arith in e)
    ∙ ap (λ h. commit_at w (rev + 1) ∷ h) (one_more w (rev + 1) n)
    ∙ ap (λ k. commit_at w (rev + 1) ∷ (commits_above w (rev + 1) n ++ commit_at w k ∷ [])) (let e : (rev + 1) + (n + 1) ≡ rev + (suc n + 1) = omega arith in e)

pub whole_more : (w : Written) (floor i : ℕ) → ((rev : ℕ) → floor < rev → rev ≤ floor + i → brings_one w rev ≡ true) → brings_one w (floor + (i + 1)) ≡ true
    → (rev : ℕ) → floor < rev → rev ≤ floor + (i + 1) → brings_one w rev ≡ true
whole_more w floor i below here rev above le = by_place (cases_lt (floor + i) rev)
  where
    by_place : (floor + i < rev) ⊎ (rev ≤ floor + i) → brings_one w rev ≡ true
    by_place (inl lt) = ap (brings_one w) (let e : rev ≡ floor + (i + 1) = omega (arith, lt, le) in e) ∙ here
    by_place (inr l) = below rev above l

pub differs : (k i : ℕ) → i + 1 ≤ k → k ≡ i → ⊥
differs k i le e = absurd (omega (arith, le, e))

pub length_above : (w : Written) (rev n : ℕ) → length (commits_above w rev n) ≡ n
length_above w rev zero = refl
length_above w rev (suc n) = ap (λ m. suc m) (length_above w (rev + 1) n)
