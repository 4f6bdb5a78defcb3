-- Parts of a text, each ended by a byte that it lacks.
use Rattle.std.proofs.Common.{◌≡◌, ℕ, ◌==◌, ◌++◌, ◌||◌, Bool, true, false, List, [], ◌∷◌, refl, ap, arith}
use Rattle.tuple_keys.specs.Spelled.{before, after, has}

-- no byte of the part ends it
pub record Lacks (end : ℕ) (xs : List ℕ) : Type 0 where
  pub none : has end xs ≡ false

neither : (a b : Bool) → (a || b) ≡ false → (a ≡ false) × (b ≡ false)
neither true b h = cc
neither false b h = (refl, h)

first_other : (end x : ℕ) (xs : List ℕ) → Lacks end (x ∷ xs) → (x == end) ≡ false
first_other end x xs a = (neither (x == end) (has end xs) a.none).0

rest_lacks : (end x : ℕ) (xs : List ℕ) → Lacks end (x ∷ xs) → Lacks end xs
rest_lacks end x xs a = record { none = (neither (x == end) (has end xs) a.none).1 }

itself : (end : ℕ) → (end == end) ≡ true
itself end = grind arith

pub before_joined : (end : ℕ) (xs s : List ℕ) → Lacks end xs → before end (xs ++ end ∷ s) ≡ xs
before_joined end [] s a = rw (itself end) refl
before_joined end (x ∷ xs) s a = rw (first_other end x xs a) (ap (λ l. x ∷ l) (before_joined end xs s (rest_lacks end x xs a)))

pub after_joined : (end : ℕ) (xs s : List ℕ) → Lacks end xs → after end (xs ++ end ∷ s) ≡ s
after_joined end [] s a = rw (itself end) refl
after_joined end (x ∷ xs) s a = rw (first_other end x xs a) (after_joined end xs s (rest_lacks end x xs a))

pub has_joined : (end : ℕ) (xs s : List ℕ) → Lacks end xs → has end (xs ++ end ∷ s) ≡ true
has_joined end [] s a = rw (itself end) refl
has_joined end (x ∷ xs) s a = rw (first_other end x xs a) (has_joined end xs s (rest_lacks end x xs a))

pub before_alone : (end : ℕ) (xs : List ℕ) → Lacks end xs → before end xs ≡ xs
before_alone end [] a = refl
before_alone end (x ∷ xs) a = rw (first_other end x xs a) (ap (λ l. x ∷ l) (before_alone end xs (rest_lacks end x xs a)))

pub after_alone : (end : ℕ) (xs : List ℕ) → Lacks end xs → after end xs ≡ []
after_alone end [] a = refl
after_alone end (x ∷ xs) a = rw (first_other end x xs a) (after_alone end xs (rest_lacks end x xs a))
