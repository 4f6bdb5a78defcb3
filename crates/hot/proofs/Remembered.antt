-- What is remembered after it was told, and after some of it was forgotten.
use Rattle.std.proofs.Common.{ℕ, ◌≡◌, ◌<◌, ◌+◌, length, take, get_or, true, false, cond, ◌||◌, nat_eq, List, [], ◌∷◌, ◌++◌, refl, sym, ◌∙◌, ap, subst, ⊎_elim, ◌⊎◌, inl, inr}
use Rattle.std.specs.Prelude.{Some, None}
use Rattle.std.specs.Ordering.{nat_cmp, is_eq}
use Rattle.std.proofs.lemmas.Bool.{cases_Bool, or_cases, or_left, or_right, eqb-true, eq-eqb}
use Rattle.std.proofs.lemmas.List.{append_assoc, take_more}
use Rattle.std.proofs.lemmas.Option.{none-some}
use Rattle.least_sets.specs.World.{Fact, has}
use Rattle.region.specs.declared.rule.Told.{Told}
use Rattle.region.specs.Rules.{fact_of}
use Rattle.region.specs.Steps.{is_told, Tells}
use Rattle.region.proofs.Listing.{eq_is, turn_eq}
use Rattle.facts.specs.inside.Tables.{has_push}
use Rattle.hot.specs.Kept.{Remembered, told_of}
use Rattle.hot.specs.inside.Remembering.{IsFresh}

-- where one was forgotten, what is left was there, and is of another node
pub forgot_one : (old new : Remembered) (k : ℕ) → ((q : ℕ) → told_of new q ≡ cond (is_eq (nat_cmp k q)) None (told_of old q))
    → (n : ℕ) (t : Told) → told_of new n ≡ Some t → (told_of old n ≡ Some t) × (nat_eq n k ≡ false)
forgot_one old new k updates n t at = ⊎_elim
    (λ h. absurd (none-some t (sym (updates n ∙ ap (λ b. cond b None (told_of old n)) h) ∙ at)))
    (λ h. (sym (updates n ∙ ap (λ b. cond b None (told_of old n)) h) ∙ at, turn_eq n k ∙ sym (eq_is k n) ∙ h))
    (cases_Bool (is_eq (nat_cmp k n)))

told_in : (xs : List Told) (t : Told) (ys : List Told) → is_told (xs ++ t ∷ ys) t.node ≡ true
told_in [] t ys = or_left (nat_eq t.node t.node) (is_told ys t.node) (eq-eqb t.node t.node refl)
told_in (x ∷ xs) t ys = or_right (nat_eq t.node x.node) (is_told (xs ++ t ∷ ys) t.node) (told_in xs t ys)

tells_in : (world : ℕ → Fact) (xs : List Told) (t : Told) (ys : List Told) → Tells world (xs ++ t ∷ ys) → world t.node ≡ fact_of t
tells_in world [] t ys h = h.0
tells_in world (x ∷ xs) t ys h = tells_in world xs t ys h.1

-- one of what was told is fresh
pub fresh_in : (all xs : List Told) (one : Told) (ys : List Told) (n : ℕ) (t : Told) → all ≡ xs ++ one ∷ ys → n ≡ one.node → t ≡ one → IsFresh all n t
fresh_in all xs one ys n t e at is =
    let fresh : IsFresh (xs ++ one ∷ ys) one.node one = (told_in xs one ys, λ world h. tells_in world xs one ys h) in
    subst (λ zs. IsFresh zs n t) (sym e) (subst (λ m. IsFresh (xs ++ one ∷ ys) m t) (sym at) (subst (λ (x : Told). IsFresh (xs ++ one ∷ ys) one.node x) (sym is) fresh))

pub popped : (all items left : List Told) (one : Told) (ys : List Told) → all ≡ items ++ ys → items ≡ left ++ one ∷ [] → all ≡ left ++ one ∷ ys
popped all items left one ys e f = e ∙ ap (λ xs. xs ++ ys) f ∙ append_assoc left (one ∷ []) ys

pub not_before : (xs : List ℕ) (i n : ℕ) → i < length xs → has (take i xs) n ≡ false → nat_eq n (get_or xs i 0) ≡ false → has (take (i + 1) xs) n ≡ false
not_before xs i n lt before here =
    ap (λ ys. has ys n) (take_more xs i 0 lt) ∙ has_push (take i xs) (get_or xs i 0) n ∙ ap (λ b. b || nat_eq n (get_or xs i 0)) before ∙ here

pub before_or_at : (xs : List ℕ) (i m : ℕ) → i < length xs → has (take (i + 1) xs) m ≡ true → (has (take i xs) m ≡ true) ⊎ (m ≡ get_or xs i 0)
before_or_at xs i m lt h = ⊎_elim
    (λ q. inl q)
    (λ q. inr (eqb-true m (get_or xs i 0) q))
    (or_cases (has (take i xs) m) (nat_eq m (get_or xs i 0)) (sym (ap (λ ys. has ys m) (take_more xs i 0 lt) ∙ has_push (take i xs) (get_or xs i 0) m) ∙ h))
