-- What was noted of users, at a revision.
use Rattle.std.proofs.Common.{ℕ, zero, suc, ◌≡◌, ◌≤◌, ◌<◌, ◌+◌, ◌-◌, false, cond, ◌&&◌, nat_eq, nat_lt, List, [], ◌∷◌, ◌++◌, length, take, drop, get_or, length-drop, refl, sym, ◌∙◌, ap, subst, arith, ⊎_elim}
use Rattle.std.specs.Prelude.{Contains, filter}
use Rattle.std.specs.List.{AllWithin}
use Rattle.std.proofs.lemmas.Bool.{cases_Bool, false≢true, eqb-true, ltb-true, lt-ltb}
use Rattle.std.proofs.lemmas.List.{get_or-drop, take_all}
use Rattle.std.proofs.lemmas.List.Elements.{Contains-get_or, Contains-push_cases}
use Rattle.std.proofs.lemmas.List.Kept.{IsNonDecreasingBy-filter}
use Rattle.std.proofs.lemmas.List.Sorted.{IsNonDecreasingBy-push, IsNonDecreasingBy-short}
use Rattle.meaning.proofs.Lists.{contains_here, contains_there, contains_cases, contains_none}
use Rattle.direct.specs.declared.noted.EarlierGroups.{EarlierGroups}
use Rattle.direct.specs.Before.{set_in, set_at, AreUpTo}

not_later : (a b : ℕ) → b ≤ a → nat_lt a b ≡ false
not_later a b le = ⊎_elim (λ t. absurd (omega (arith, ltb-true a b t, le))) (λ f. f) (cases_Bool (nat_lt a b))

-- nothing is noted after the revision
pub set_now : (es : List EarlierGroups) (sets : List (List ℕ)) (user rev : ℕ) → ((e : EarlierGroups) → Contains es e → e.rev ≤ rev) → set_at es sets user rev ≡ set_in sets user
set_now [] sets user rev low = refl
set_now (e ∷ es) sets user rev low =
    ap (λ b. cond (b && nat_eq user e.user) e.groups (set_at es sets user rev)) (not_later rev e.rev (low e (contains_here e es)))
    ∙ set_now es sets user rev (λ x c. low x (contains_there e x es c))

-- what was noted up to the revision is passed over
pub set_past : (es : List EarlierGroups) (sets : List (List ℕ)) (user rev k : ℕ) → AllWithin (λ (e : EarlierGroups). e.rev ≤ rev) es 0 k → set_at (drop k es) sets user rev ≡ set_at es sets user rev
set_past es sets user rev zero low = refl
set_past [] sets user rev (suc k) low = refl
set_past (e ∷ es) sets user rev (suc k) low =
    set_past es sets user rev k (λ j d from lt. low (suc j) d (omega arith) (omega (arith, lt)))
    ∙ sym (ap (λ b. cond (b && nat_eq user e.user) e.groups (set_at es sets user rev)) (not_later rev e.rev (low zero e (omega arith) (omega arith))))

-- all that is left from a place on
pub rest_of : (es : List EarlierGroups) (first n : ℕ) → length es ≤ first + n → take n (drop first es) ≡ drop first es
rest_of es first n le = take_all n (drop first es) (omega (arith, le, length-drop first es))

-- those from the first that is later on are later
pub later_from : (es : List EarlierGroups) (rev first n : ℕ) → length es ≤ first + n → AllWithin (λ (e : EarlierGroups). rev < e.rev) es first (length es)
    → AllWithin (λ (e : EarlierGroups). rev < e.rev) (take n (drop first es)) 0 (length (take n (drop first es)))
later_from es rev first n le later =
    subst (λ xs. AllWithin (λ (e : EarlierGroups). rev < e.rev) xs 0 (length xs)) (sym (rest_of es first n le))
    (λ k d from lt. subst (λ (e : EarlierGroups). rev < e.rev) (sym (get_or-drop first es k d)) (later (first + k) d (omega arith) (omega (arith, lt, length-drop first es))))

-- where the sets are the same, so is what they were
pub set_same : (es : List EarlierGroups) (a b : List (List ℕ)) (user rev : ℕ) → set_in b user ≡ set_in a user → set_at es b user rev ≡ set_at es a user rev
set_same [] a b user rev e = e
set_same (x ∷ es) a b user rev e = ap (λ s. cond (nat_lt rev x.rev && nat_eq user x.user) x.groups s) (set_same es a b user rev e)

-- a set that is noted last is told of the revisions before
pub set_noted : (rev : ℕ) (a b : List (List ℕ)) (e : EarlierGroups) (user at : ℕ) → at < e.rev → e.groups ≡ set_in a e.user → (nat_eq user e.user ≡ false → set_in b user ≡ set_in a user) → (es : List EarlierGroups)
    → set_at (es ++ e ∷ []) b user at ≡ set_at es a user at
set_noted rev a b e user at before is same [] =
    ap (λ t. cond (t && nat_eq user e.user) e.groups (set_in b user)) (lt-ltb at e.rev before)
    ∙ ⊎_elim
    (λ t. ap (λ c. cond c e.groups (set_in b user)) t ∙ is ∙ ap (set_in a) (sym (eqb-true user e.user t)))
    (λ f. ap (λ c. cond c e.groups (set_in b user)) f ∙ same f)
    (cases_Bool (nat_eq user e.user))
set_noted rev a b e user at before is same (x ∷ es) = ap (λ s. cond (nat_lt at x.rev && nat_eq user x.user) x.groups s) (set_noted rev a b e user at before is same es)

abbrev rev_of : EarlierGroups → ℕ
rev_of e = e.rev

pub up_to_none : (cursor : ℕ) (es : List EarlierGroups) → es ≡ [] → AreUpTo cursor es
up_to_none cursor es none = subst (λ xs. AreUpTo cursor xs) (sym none) (record {
  order = IsNonDecreasingBy-short rev_of [] (omega arith);
  up_to = λ e c. absurd (contains_none e c);
})

pub up_to_later : (cursor rev : ℕ) (es : List EarlierGroups) → cursor ≤ rev → AreUpTo cursor es → AreUpTo rev es
up_to_later cursor rev es le are = record {
  order = are.order;
  up_to = λ e c. let l = are.up_to e c in omega (arith, le, l);
}

-- what is noted of the last revision stands at the end
pub up_to_push : (rev : ℕ) (e : EarlierGroups) (es : List EarlierGroups) → e.rev ≡ rev → AreUpTo rev es → AreUpTo rev (es ++ e ∷ [])
up_to_push rev e es is are = record {
  order = IsNonDecreasingBy-push rev_of es e are.order (λ d lt.
      let last : length es - 1 < length es = omega (arith, lt) in
      let l = are.up_to (get_or es (length es - 1) d) (Contains-get_or es (length es - 1) d last) in
      omega (arith, l, is));
  up_to = λ x c. ⊎_elim
      (λ d. are.up_to x d)
      (λ d. let same : e.rev ≡ x.rev = ap rev_of d in omega (arith, is, same))
      (Contains-push_cases es e x c);
}

-- what was noted up to a revision is not looked at after it
pub set_filtered : (base : ℕ) (es : List EarlierGroups) (sets : List (List ℕ)) (user rev : ℕ) → base ≤ rev → set_at (filter (λ (e : EarlierGroups). nat_lt base e.rev) es) sets user rev ≡ set_at es sets user rev
set_filtered base [] sets user rev le = refl
set_filtered base (e ∷ es) sets user rev le = ⊎_elim
    (λ t. ap (λ b. set_at (cond b (e ∷ filter (λ (x : EarlierGroups). nat_lt base x.rev) es) (filter (λ (x : EarlierGroups). nat_lt base x.rev) es)) sets user rev) t
    ∙ ap (λ s. cond (nat_lt rev e.rev && nat_eq user e.user) e.groups s) (set_filtered base es sets user rev le))
    (λ f. ap (λ b. set_at (cond b (e ∷ filter (λ (x : EarlierGroups). nat_lt base x.rev) es) (filter (λ (x : EarlierGroups). nat_lt base x.rev) es)) sets user rev) f
    ∙ set_filtered base es sets user rev le
    ∙ sym (ap (λ b. cond (b && nat_eq user e.user) e.groups (set_at es sets user rev)) (over f)))
    (cases_Bool (nat_lt base e.rev))
  where
    over : nat_lt base e.rev ≡ false → nat_lt rev e.rev ≡ false
    over f = ⊎_elim (λ t. absurd (false≢true (sym f ∙ lt-ltb base e.rev (let l = ltb-true rev e.rev t in omega (arith, l, le))))) (λ q. q) (cases_Bool (nat_lt rev e.rev))

filtered_there : (base : ℕ) (es : List EarlierGroups) (e : EarlierGroups) → Contains (filter (λ (x : EarlierGroups). nat_lt base x.rev) es) e → Contains es e
filtered_there base [] e c = c
filtered_there base (x ∷ es) e c = ⊎_elim
    (λ t. ⊎_elim
    (λ is. subst (λ y. Contains (x ∷ es) y) is (contains_here x es))
    (λ d. contains_there x e es (filtered_there base es e d))
    (contains_cases x e (filter (λ (y : EarlierGroups). nat_lt base y.rev) es) (subst (λ b. Contains (cond b (x ∷ filter (λ (y : EarlierGroups). nat_lt base y.rev) es) (filter (λ (y : EarlierGroups). nat_lt base y.rev) es)) e) t c)))
    (λ f. contains_there x e es (filtered_there base es e (subst (λ b. Contains (cond b (x ∷ filter (λ (y : EarlierGroups). nat_lt base y.rev) es) (filter (λ (y : EarlierGroups). nat_lt base y.rev) es)) e) f c)))
    (cases_Bool (nat_lt base x.rev))

pub up_to_filtered : (base cursor : ℕ) (es es' : List EarlierGroups) → es' ≡ filter (λ (e : EarlierGroups). nat_lt base e.rev) es → AreUpTo cursor es → AreUpTo cursor es'
up_to_filtered base cursor es es' is are = subst (λ xs. AreUpTo cursor xs) (sym is) (record {
  order = IsNonDecreasingBy-filter rev_of (λ (e : EarlierGroups). nat_lt base e.rev) es are.order;
  up_to = λ e c. are.up_to e (filtered_there base es e c);
})
