-- Lists of entries, and of views.
use Rattle.std.proofs.Common.{◌≡◌, ◌≢◌, ◌⊎◌, ◌<◌, ◌==◌, ℕ, zero, suc, List, [], ◌∷◌, ◌++◌, length, set, Bool, true, false, refl, sym, ap, ◌∙◌, inl, inr, ⊎_elim, eq-eqb, ne_eqb, arith}
use mathlib.Core.Option.{some, some-ne-none, some-injective}
use mathlib.Core.List.{IsPrefix}
use lib.ListN.{get_elem?}
use Rattle.one_history.specs.declared.entry.Entry.{Entry}
use Rattle.one_history.specs.History.{signed, put_if, entries_by}

module _ {A : Type 0} where
  -- where a list ends
  pub at_end : (l : List A) (a b : A) (j : ℕ) → get_elem? (l ++ a ∷ []) j ≡ some b → (get_elem? l j ≡ some b) ⊎ ((j ≡ length l) × (a ≡ b))
  at_end [] a b zero e = inr (refl, some-injective a b e)
  at_end [] a b (suc j) e = absurd (some-ne-none b (sym e))
  at_end (x ∷ xs) a b zero e = inl e
  at_end (x ∷ xs) a b (suc j) e = ⊎_elim (λ h. inl h) (λ t. inr (ap suc t.0, t.1)) (at_end xs a b j e)

  pub within : (l : List A) (i : ℕ) (a : A) → get_elem? l i ≡ some a → i < length l
  within [] i a e = absurd (some-ne-none a (sym e))
  within (x ∷ xs) zero a e = omega arith
  within (x ∷ xs) (suc i) a e = let h = within xs i a e in omega arith

  pub length-set : (l : List A) (i : ℕ) (a : A) → length (set l i a) ≡ length l
  length-set [] i a = refl
  length-set (x ∷ xs) zero a = refl
  length-set (x ∷ xs) (suc i) a = ap suc (length-set xs i a)

  pub append-nil : (xs : List A) → xs ++ [] ≡ xs
  append-nil [] = refl
  append-nil (x ∷ xs) = ap (λ l. x ∷ l) (append-nil xs)

  pub append-assoc : (xs ys zs : List A) → (xs ++ ys) ++ zs ≡ xs ++ (ys ++ zs)
  append-assoc [] ys zs = refl
  append-assoc (x ∷ xs) ys zs = ap (λ l. x ∷ l) (append-assoc xs ys zs)

  pub longer : (xs log more : List A) → IsPrefix xs log → IsPrefix xs (log ++ more)
  longer xs log more h = (h.0 ++ more, sym (append-assoc xs h.0 more) ∙ ap (λ l. l ++ more) h.1)

  pub whole : (xs : List A) → IsPrefix xs xs
  whole xs = ([], append-nil xs)

module _ {E : Type 0} where
  put-append : (b : Bool) (e : Entry E) (xs ys : List (Entry E)) → put_if b e (xs ++ ys) ≡ put_if b e xs ++ ys
  put-append true e xs ys = refl
  put-append false e xs ys = refl

  entries-append : (by : ℕ) (xs ys : List (Entry E)) → entries_by by (xs ++ ys) ≡ entries_by by xs ++ entries_by by ys
  entries-append by [] ys = refl
  entries-append by (e ∷ es) ys = ap (put_if (by == e.by) e) (entries-append by es ys) ∙ put-append (by == e.by) e (entries_by by es) (entries_by by ys)

  signed-own : (by : ℕ) (what : List E) → entries_by by (signed by what) ≡ signed by what
  signed-own by [] = refl
  signed-own by (x ∷ xs) =
      let e : Entry E = record { by = by; what = x } in
      ap (λ b. put_if b e (entries_by by (signed by xs))) (eq-eqb by by refl) ∙ ap (λ l. e ∷ l) (signed-own by xs)

  signed-other : (by to : ℕ) (what : List E) → by ≢ to → entries_by by (signed to what) ≡ []
  signed-other by to [] apart = refl
  signed-other by to (x ∷ xs) apart =
      let e : Entry E = record { by = to; what = x } in
      ap (λ b. put_if b e (entries_by by (signed to xs))) (ne_eqb by to apart) ∙ signed-other by to xs apart

  -- what a worker adds is put behind its own
  pub entries-own : (by : ℕ) (xs : List (Entry E)) (what : List E) → entries_by by (xs ++ signed by what) ≡ entries_by by xs ++ signed by what
  entries-own by xs what = entries-append by xs (signed by what) ∙ ap (λ l. entries_by by xs ++ l) (signed-own by what)

  -- and is none of another's own
  pub entries-other : (by to : ℕ) (xs : List (Entry E)) (what : List E) → by ≢ to → entries_by by (xs ++ signed to what) ≡ entries_by by xs
  entries-other by to xs what apart =
      entries-append by xs (signed to what) ∙ (ap (λ l. entries_by by xs ++ l) (signed-other by to what apart) ∙ append-nil (entries_by by xs))
