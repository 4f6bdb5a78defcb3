-- What was noted of groups, at a revision.
use Rattle.std.proofs.Common.{ℕ, zero, suc, ◌≡◌, ◌≤◌, ◌<◌, ◌+◌, ◌-◌, true, false, cond, ◌&&◌, nat_eq, nat_lt, List, [], ◌∷◌, ◌++◌, length, take, drop, get_or, append_assoc, append-nil, length-drop, refl, sym, ◌∙◌, ap, subst, arith, ⊎_elim, ◌⊎◌, inl, inr}
use Rattle.std.specs.Prelude.{Option, Contains, filter}
use Rattle.std.specs.List.{AllWithin}
use Rattle.std.specs.List.Sorted.{IsNonDecreasingBy}
use Rattle.std.specs.Option.{option_map}
use Rattle.std.proofs.lemmas.Bool.{cases_Bool, false≢true, eqb-true, eq-eqb, ltb-true, lt-ltb}
use Rattle.std.proofs.lemmas.List.{get_or-drop, take_all}
use Rattle.std.proofs.lemmas.List.Elements.{Contains-append_cases, Contains-get_or, Contains-push_cases}
use Rattle.std.proofs.lemmas.List.Kept.{IsNonDecreasingBy-filter}
use Rattle.std.proofs.lemmas.List.Sorted.{IsNonDecreasingBy-push, IsNonDecreasingBy-short}
use Rattle.meaning.proofs.Lists.{contains_here, contains_there, contains_cases, contains_none}
use Rattle.region.specs.declared.sets.Row.{Row}
use Rattle.region.specs.Tables.{Rows, row_of}
use Rattle.delta.specs.declared.earlier.Earlier.{Earlier}
use Rattle.delta.specs.Noted.{led_in, led_at, AreUpTo, IsNoted}

not_later : (a b : ℕ) → b ≤ a → nat_lt a b ≡ false
not_later a b le = ⊎_elim (λ t. absurd (omega (arith, ltb-true a b t, le))) (λ f. f) (cases_Bool (nat_lt a b))

-- nothing is noted after the revision
pub led_now : (es : List Earlier) (rows : Rows) (i rev : ℕ) → ((e : Earlier) → Contains es e → e.rev ≤ rev) → led_at es rows i rev ≡ led_in rows i
led_now [] rows i rev low = refl
led_now (e ∷ es) rows i rev low =
    ap (λ b. cond (b && nat_eq i e.group) e.led (led_at es rows i rev)) (not_later rev e.rev (low e (contains_here e es)))
    ∙ led_now es rows i rev (λ x c. low x (contains_there e x es c))

-- what was noted up to the revision is passed over
pub led_past : (es : List Earlier) (rows : Rows) (i rev k : ℕ) → AllWithin (λ (e : Earlier). e.rev ≤ rev) es 0 k → led_at (drop k es) rows i rev ≡ led_at es rows i rev
led_past es rows i rev zero low = refl
led_past [] rows i rev (suc k) low = refl
led_past (e ∷ es) rows i rev (suc k) low =
    led_past es rows i rev k (λ j d from lt. low (suc j) d (omega arith) (omega (arith, lt)))
    ∙ sym (ap (λ b. cond (b && nat_eq i e.group) e.led (led_at es rows i rev)) (not_later rev e.rev (low zero e (omega arith) (omega arith))))

-- all that is left from a place on
pub rest_of : (es : List Earlier) (first n : ℕ) → length es ≤ first + n → take n (drop first es) ≡ drop first es
rest_of es first n le = take_all n (drop first es) (omega (arith, le, length-drop first es))

-- those from the first that is later on are later
pub later_from : (es : List Earlier) (rev first n : ℕ) → length es ≤ first + n → AllWithin (λ (e : Earlier). rev < e.rev) es first (length es)
    → AllWithin (λ (e : Earlier). rev < e.rev) (take n (drop first es)) 0 (length (take n (drop first es)))
later_from es rev first n le later =
    subst (λ xs. AllWithin (λ (e : Earlier). rev < e.rev) xs 0 (length xs)) (sym (rest_of es first n le))
    (λ k d from lt. subst (λ (e : Earlier). rev < e.rev) (sym (get_or-drop first es k d)) (later (first + k) d (omega arith) (omega (arith, lt, length-drop first es))))

pub led_same : (es : List Earlier) (a b : Rows) (i rev : ℕ) → ((n : ℕ) → row_of b n ≡ row_of a n) → led_at es b i rev ≡ led_at es a i rev
led_same [] a b i rev e = ap (λ (r : Option Row). option_map (λ (row : Row). row.members) r) (e i)
led_same (x ∷ es) a b i rev e = ap (λ l. cond (nat_lt rev x.rev && nat_eq i x.group) x.led l) (led_same es a b i rev e)

module _ (rev : ℕ) (old new : Rows) (i at : ℕ) (before : at < rev) where
  -- what is noted now tells what was kept
  more_tells : (more : List Earlier) → ((e : Earlier) → Contains more e → (e.rev ≡ rev) × (e.led ≡ led_in old e.group))
      → ((e : Earlier) × Contains more e × (e.group ≡ i)) ⊎ (led_in new i ≡ led_in old i) → led_at more new i at ≡ led_in old i
  more_tells [] each (inl (e, c, is)) = absurd (contains_none e c)
  more_tells [] each (inr same) = same
  more_tells (x ∷ xs) each which =
      let here = each x (contains_here x xs) in
      let later : nat_lt at x.rev ≡ true = lt-ltb at x.rev (subst (λ q. at < q) (sym here.0) before) in
      ap (λ b. cond (b && nat_eq i x.group) x.led (led_at xs new i at)) later
      ∙ ⊎_elim
      (λ t. ap (λ b. cond b x.led (led_at xs new i at)) t ∙ here.1 ∙ ap (led_in old) (sym (eqb-true i x.group t)))
      (λ f. ap (λ b. cond b x.led (led_at xs new i at)) f ∙ more_tells xs (λ e c. each e (contains_there x e xs c)) (⊎_elim
      (λ (e, c, is). ⊎_elim
      (λ same. absurd (false≢true (sym f ∙ eq-eqb i x.group (sym is ∙ ap (λ (y : Earlier). y.group) (sym same)))))
      (λ d. inl (e, d, is))
      (contains_cases x e xs c))
      (λ same. inr same)
      which))
      (cases_Bool (nat_eq i x.group))

  pub led_before : (es more : List Earlier) → ((e : Earlier) → Contains more e → (e.rev ≡ rev) × (e.led ≡ led_in old e.group))
      → ((e : Earlier) × Contains more e × (e.group ≡ i)) ⊎ (led_in new i ≡ led_in old i) → led_at (es ++ more) new i at ≡ led_at es old i at
  led_before [] more each which = more_tells more each which
  led_before (x ∷ es) more each which = ap (λ l. cond (nat_lt at x.rev && nat_eq i x.group) x.led l) (led_before es more each which)

  pub noted_before : (es es' : List Earlier) → IsNoted rev old new es es' → led_at es' new i at ≡ led_at es old i at
  noted_before es es' n = ap (λ xs. led_at xs new i at) n.noted ∙ led_before es n.more (λ e c. let k = n.each e c in (k.0, k.1)) (n.others i)

abbrev rev_of : Earlier → ℕ
rev_of e = e.rev

pub up_to_none : (cursor : ℕ) (es : List Earlier) → es ≡ [] → AreUpTo cursor es
up_to_none cursor es none = subst (λ xs. AreUpTo cursor xs) (sym none) (record {
  order = IsNonDecreasingBy-short rev_of [] (omega arith);
  up_to = λ e c. absurd (contains_none e c);
})

in_order : (rev : ℕ) (more es : List Earlier) → IsNonDecreasingBy rev_of es → ((e : Earlier) → Contains es e → e.rev ≤ rev) → ((e : Earlier) → Contains more e → e.rev ≡ rev)
    → IsNonDecreasingBy rev_of (es ++ more)
in_order rev [] es order low each = subst (λ xs. IsNonDecreasingBy rev_of xs) (sym (append-nil es)) order
in_order rev (x ∷ xs) es order low each =
    subst (λ ys. IsNonDecreasingBy rev_of ys) (append_assoc es (x ∷ []) xs)
    (in_order rev xs (es ++ x ∷ [])
    (IsNonDecreasingBy-push rev_of es x order (λ d lt.
    let last : length es - 1 < length es = omega (arith, lt) in
    let l = low (get_or es (length es - 1) d) (Contains-get_or es (length es - 1) d last) in
    omega (arith, l, here)))
    (λ e c. ⊎_elim
    (λ d. low e d)
    (λ d. let is : x.rev ≡ e.rev = ap rev_of d in omega (arith, here, is))
    (Contains-push_cases es x e c))
    (λ e c. each e (contains_there x e xs c)))
  where
    here : x.rev ≡ rev
    here = each x (contains_here x xs)

-- what is noted of a revision after the cursor stands at the end
pub up_to_more : (rev cursor : ℕ) (old new : Rows) (es es' : List Earlier) → IsNoted rev old new es es' → cursor ≤ rev → AreUpTo cursor es → AreUpTo rev es'
up_to_more rev cursor old new es es' n up are = subst (λ xs. AreUpTo rev xs) (sym n.noted) (record {
  order = in_order rev n.more es are.order low (λ e c. (n.each e c).0);
  up_to = λ e c. ⊎_elim
      (λ d. low e d)
      (λ d. let is = (n.each e d).0 in omega (arith, is))
      (Contains-append_cases es n.more e c);
})
  where
    low : (e : Earlier) → Contains es e → e.rev ≤ rev
    low e c = let l = are.up_to e c in omega (arith, up, l)

-- what was noted up to a revision is not looked at after it
pub led_filtered : (base : ℕ) (es : List Earlier) (rows : Rows) (i rev : ℕ) → base ≤ rev → led_at (filter (λ (e : Earlier). nat_lt base e.rev) es) rows i rev ≡ led_at es rows i rev
led_filtered base [] rows i rev le = refl
led_filtered base (e ∷ es) rows i rev le = ⊎_elim
    (λ t. ap (λ b. led_at (cond b (e ∷ filter (λ (x : Earlier). nat_lt base x.rev) es) (filter (λ (x : Earlier). nat_lt base x.rev) es)) rows i rev) t
    ∙ ap (λ l. cond (nat_lt rev e.rev && nat_eq i e.group) e.led l) (led_filtered base es rows i rev le))
    (λ f. ap (λ b. led_at (cond b (e ∷ filter (λ (x : Earlier). nat_lt base x.rev) es) (filter (λ (x : Earlier). nat_lt base x.rev) es)) rows i rev) f
    ∙ led_filtered base es rows i rev le
    ∙ sym (ap (λ b. cond (b && nat_eq i e.group) e.led (led_at es rows i rev)) (over f)))
    (cases_Bool (nat_lt base e.rev))
  where
    over : nat_lt base e.rev ≡ false → nat_lt rev e.rev ≡ false
    over f = ⊎_elim (λ t. absurd (false≢true (sym f ∙ lt-ltb base e.rev (let l = ltb-true rev e.rev t in omega (arith, l, le))))) (λ q. q) (cases_Bool (nat_lt rev e.rev))

pub filtered_there : (base : ℕ) (es : List Earlier) (e : Earlier) → Contains (filter (λ (x : Earlier). nat_lt base x.rev) es) e → Contains es e
filtered_there base [] e c = c
filtered_there base (x ∷ es) e c = ⊎_elim
    (λ t. ⊎_elim
    (λ is. subst (λ y. Contains (x ∷ es) y) is (contains_here x es))
    (λ d. contains_there x e es (filtered_there base es e d))
    (contains_cases x e (filter (λ (y : Earlier). nat_lt base y.rev) es) (subst (λ b. Contains (cond b (x ∷ filter (λ (y : Earlier). nat_lt base y.rev) es) (filter (λ (y : Earlier). nat_lt base y.rev) es)) e) t c)))
    (λ f. contains_there x e es (filtered_there base es e (subst (λ b. Contains (cond b (x ∷ filter (λ (y : Earlier). nat_lt base y.rev) es) (filter (λ (y : Earlier). nat_lt base y.rev) es)) e) f c)))
    (cases_Bool (nat_lt base x.rev))

pub up_to_filtered : (base cursor : ℕ) (es es' : List Earlier) → es' ≡ filter (λ (e : Earlier). nat_lt base e.rev) es → AreUpTo cursor es → AreUpTo cursor es'
up_to_filtered base cursor es es' is are = subst (λ xs. AreUpTo cursor xs) (sym is) (record {
  order = IsNonDecreasingBy-filter rev_of (λ (e : Earlier). nat_lt base e.rev) es are.order;
  up_to = λ e c. are.up_to e (filtered_there base es e c);
})
