-- The parts of a rewrite, one after the other.
use Rattle.std.proofs.Common.{◌≡◌, ℕ, zero, suc, ◌<◌, ◌≤◌, ◌+◌, List, [], ◌∷◌, length, get_or, drop, sym, subst, inl, inr, arith}
use Rattle.std.specs.Prelude.{◌⊎◌}
use Rattle.names.specs.declared.object.Object.{Object}
use Rattle.names.specs.declared.node.Node.{Node}
use Rattle.meaning.specs.Snap.{Snap}
use Rattle.meaning.specs.Membership.{Gives, SomeGives, EachGives}
use Rattle.config_text.specs.declared.rewrite.Rewrite.{Rewrite}
use Rattle.config_text.specs.Forms.{form_of, rewrite_forms}

plus_one : (k : ℕ) → suc k ≡ k + 1
plus_one k = omega arith

module _ (S : Snap) (u : Object) (n : Node) (X L : Node → Type 0) where
  pub some_at : (parts : List Rewrite) (k : ℕ) (p : Rewrite) → k < length parts → get_or parts k p ≡ p → Gives S u n (form_of p) X L → SomeGives S u n (rewrite_forms parts) X L
  some_at [] k p lt e g = absurd (omega (arith, lt))
  some_at (q ∷ qs) zero p lt e g = inl (subst (λ r. Gives S u n (form_of r) X L) (sym e) g)
  some_at (q ∷ qs) (suc k) p lt e g = inr (some_at qs k p (omega (arith, lt)) e g)

  pub each_at : (parts : List Rewrite) (k : ℕ) (p : Rewrite) → k < length parts → get_or parts k p ≡ p → EachGives S u n (rewrite_forms parts) X L → Gives S u n (form_of p) X L
  each_at [] k p lt e g = absurd (omega (arith, lt))
  each_at (q ∷ qs) zero p lt e g = subst (λ r. Gives S u n (form_of r) X L) e g.0
  each_at (q ∷ qs) (suc k) p lt e g = each_at qs k p (omega (arith, lt)) e g.1

  some_below : (parts : List Rewrite) (k : ℕ) (p : Rewrite) → k < length parts → get_or parts k p ≡ p → SomeGives S u n (rewrite_forms (drop k parts)) X L → Gives S u n (form_of p) X L ⊎ SomeGives S u n (rewrite_forms (drop (suc k) parts)) X L
  some_below [] k p lt e g = absurd (omega (arith, lt))
  some_below (q ∷ qs) zero p lt e (inl g) = inl (subst (λ r. Gives S u n (form_of r) X L) e g)
  some_below (q ∷ qs) zero p lt e (inr g) = inr g
  some_below (q ∷ qs) (suc k) p lt e g = some_below qs k p (omega (arith, lt)) e g

  each_below : (parts : List Rewrite) (k : ℕ) (p : Rewrite) → k < length parts → get_or parts k p ≡ p → Gives S u n (form_of p) X L → EachGives S u n (rewrite_forms (drop (suc k) parts)) X L → EachGives S u n (rewrite_forms (drop k parts)) X L
  each_below [] k p lt e g h = absurd (omega (arith, lt))
  each_below (q ∷ qs) zero p lt e g h = (subst (λ r. Gives S u n (form_of r) X L) (sym e) g, h)
  each_below (q ∷ qs) (suc k) p lt e g h = each_below qs k p (omega (arith, lt)) e g h

  pub some_left : (parts : List Rewrite) (k : ℕ) (p : Rewrite) → k < length parts → get_or parts k p ≡ p → SomeGives S u n (rewrite_forms (drop k parts)) X L → Gives S u n (form_of p) X L ⊎ SomeGives S u n (rewrite_forms (drop (k + 1) parts)) X L
  some_left parts k p lt e g = subst (λ j. Gives S u n (form_of p) X L ⊎ SomeGives S u n (rewrite_forms (drop j parts)) X L) (plus_one k) (some_below parts k p lt e g)

  pub each_left : (parts : List Rewrite) (k : ℕ) (p : Rewrite) → k < length parts → get_or parts k p ≡ p → Gives S u n (form_of p) X L → EachGives S u n (rewrite_forms (drop (k + 1) parts)) X L → EachGives S u n (rewrite_forms (drop k parts)) X L
  each_left parts k p lt e g h = each_below parts k p lt e g (subst (λ j. EachGives S u n (rewrite_forms (drop j parts)) X L) (sym (plus_one k)) h)

  pub some_none : (parts : List Rewrite) (k : ℕ) → length parts ≤ k → SomeGives S u n (rewrite_forms (drop k parts)) X L → ⊥
  some_none [] zero h g = g
  some_none [] (suc k) h g = g
  some_none (q ∷ qs) zero h g = absurd (omega (arith, h))
  some_none (q ∷ qs) (suc k) h g = some_none qs k (omega (arith, h)) g

  pub each_none : (parts : List Rewrite) (k : ℕ) → length parts ≤ k → EachGives S u n (rewrite_forms (drop k parts)) X L
  each_none [] zero h = tt
  each_none [] (suc k) h = tt
  each_none (q ∷ qs) zero h = absurd (omega (arith, h))
  each_none (q ∷ qs) (suc k) h = each_none qs k (omega (arith, h))
