-- What is noted of groups that a change touches.
use Rattle.std.proofs.Common.{ℕ, ◌≡◌, Bool, true, false, not, ◌&&◌, ◌||◌, nat_eq, List, [], ◌∷◌, ◌++◌, map, refl, sym, ◌∙◌, ap, subst, arith, ◌⊎◌, ⊎_elim, inl, inr}
use Rattle.std.specs.Prelude.{Option, None, Some, Contains, filter, is_some}
use Rattle.std.specs.Bool.{Decides}
use Rattle.std.specs.Cmp.Lexicographic.{pointwise}
use Rattle.std.specs.List.{AllByRecursion, IsDistinct}
use Rattle.std.specs.List.Sorted.{IsStrictlyIncreasing}
use Rattle.std.specs.Option.{option_eq, option_map}
use Rattle.std.proofs.lemmas.Bool.{cases_Bool, cond_both, or_cases, false≢true, eqb-true}
use Rattle.std.proofs.lemmas.Bool.Decides.{Decides-eqb, Decides-not}
use Rattle.std.proofs.lemmas.List.{map-append}
use Rattle.std.proofs.lemmas.List.Elements.{Contains-push_cases}
use Rattle.std.proofs.lemmas.List.Kept.{AllPairs-from_increasing}
use Rattle.std.proofs.lemmas.Map.Made.{IsDistinct-from_AllPairs}
use Rattle.std.proofs.lemmas.Option.{same_Some}
use Rattle.std.proofs.lemmas.Slice.Eq.{bytes_eq-Decides}
use Rattle.meaning.proofs.Lists.{contains_here, contains_there, contains_cases, contains_none}
use Rattle.least_sets.specs.World.{has}
use Rattle.region.specs.declared.rule.Told.{Told}
use Rattle.region.specs.declared.sets.Row.{Row}
use Rattle.region.specs.Steps.{is_told}
use Rattle.region.specs.Tables.{Rows, row_of, kept}
use Rattle.region.specs.Gathered.{stays, in_region, nodes_of}
use Rattle.region.proofs.Walked.{told_nodes}
use Rattle.delta.specs.declared.earlier.Earlier.{Earlier}
use Rattle.delta.specs.Noted.{led_in, IsNoted}
use Rattle.delta.specs.inside.Noting.{AreNotedOf, leads_elsewhere}

abbrev group_of : Earlier → ℕ
group_of e = e.group

pub noted_none : (rev : ℕ) (led : ℕ → Option (List ℕ)) (list : List Earlier) → list ≡ [] → AreNotedOf rev led [] list
noted_none rev led list none = record {
  of = ap (map group_of) none;
  each = λ e c. absurd (contains_none e (subst (λ xs. Contains xs e) none c));
}

pub noted_more : (rev : ℕ) (led : ℕ → Option (List ℕ)) (list list' : List Earlier) (e : Earlier) (group : ℕ) → e.rev ≡ rev → e.group ≡ group → e.led ≡ led group → list' ≡ list ++ e ∷ []
    → (before : List ℕ) → AreNotedOf rev led before list → AreNotedOf rev led (before ++ group ∷ []) list'
noted_more rev led list list' e group at of is more before are = record {
  of = ap (map group_of) more ∙ map-append group_of list (e ∷ []) ∙ ap (λ (xs : List ℕ). xs ++ e.group ∷ []) are.of ∙ ap (λ (g : ℕ). before ++ g ∷ []) of;
  each = λ x c. ⊎_elim
      (λ d. are.each x d)
      (λ d. subst (λ (y : Earlier). (y.rev ≡ rev) × (y.led ≡ led y.group)) d (at, is ∙ ap led (sym of)))
      (Contains-push_cases list e x (subst (λ xs. Contains xs x) more c));
}

-- ---- what is left of it

module _ (p : Earlier → Bool) where
  left_there : (es : List Earlier) (e : Earlier) → Contains (filter p es) e → Contains es e × (p e ≡ true)
  left_there [] e = λ c. absurd (contains_none e c)
  left_there (x ∷ xs) e = cond_both (p x) (x ∷ filter p xs) (filter p xs) (λ ys. Contains ys e → Contains (x ∷ xs) e × (p e ≡ true))
      (λ t c. ⊎_elim
      (λ is. (subst (λ y. Contains (x ∷ xs) y) is (contains_here x xs), sym (ap p is) ∙ t))
      (λ d. let k = left_there xs e d in (contains_there x e xs k.0, k.1))
      (contains_cases x e (filter p xs) c))
      (λ f c. let k = left_there xs e c in (contains_there x e xs k.0, k.1))

  there_left : (es : List Earlier) (e : Earlier) → p e ≡ true → Contains es e → Contains (filter p es) e
  there_left [] e t c = c
  there_left (x ∷ xs) e t c = cond_both (p x) (x ∷ filter p xs) (filter p xs) (λ ys. Contains ys e)
      (λ y. ⊎_elim
      (λ is. subst (λ z. Contains (x ∷ filter p xs) z) is (contains_here x (filter p xs)))
      (λ d. contains_there x e (filter p xs) (there_left xs e t d))
      (contains_cases x e xs c))
      (λ f. ⊎_elim
      (λ is. absurd (false≢true (sym f ∙ ap p is ∙ t)))
      (λ d. there_left xs e t d)
      (contains_cases x e xs c))

  left_apart : (group : ℕ) (es : List Earlier) → AllByRecursion (λ g. nat_eq group g ≡ false) (map group_of es) → AllByRecursion (λ g. nat_eq group g ≡ false) (map group_of (filter p es))
  left_apart group [] h = h
  left_apart group (x ∷ xs) h = cond_both (p x) (x ∷ filter p xs) (filter p xs) (λ ys. AllByRecursion (λ g. nat_eq group g ≡ false) (map group_of ys))
      (λ t. (h.0, left_apart group xs h.1))
      (λ f. left_apart group xs h.1)

  left_once : (es : List Earlier) → IsDistinct nat_eq (map group_of es) → IsDistinct nat_eq (map group_of (filter p es))
  unfolding IsDistinct
  left_once [] h = h
  left_once (x ∷ xs) h = cond_both (p x) (x ∷ filter p xs) (filter p xs) (λ ys. IsDistinct nat_eq (map group_of ys))
      (λ t. (left_apart x.group xs h.0, left_once xs h.1))
      (λ f. left_once xs h.1)

rising_once : (xs : List ℕ) → IsStrictlyIncreasing xs → IsDistinct nat_eq xs
rising_once xs rising = IsDistinct-from_AllPairs Decides-eqb xs (λ i j d lt within same. let l = AllPairs-from_increasing xs rising i j d lt within in omega (arith, l, same))

-- one of what was noted is of the group
of_group : (es : List Earlier) (i : ℕ) → has (map group_of es) i ≡ true → (e : Earlier) × Contains es e × (e.group ≡ i)
of_group [] i h = absurd (false≢true h)
of_group (e ∷ es) i h = ⊎_elim
    (λ t. (e, contains_here e es, sym (eqb-true i e.group t)))
    (λ t. let found = of_group es i t in (found.0, contains_there e found.0 es found.1, found.2))
    (or_cases (nat_eq i e.group) (has (map group_of es) i) h)

same_or_not : (a b : Option (List ℕ)) → Decides (option_eq (pointwise nat_eq) a b) (a ≡ b)
same_or_not None None = (λ t. refl, λ e. refl)
same_or_not None (Some ys) = (λ t. absurd (false≢true t), λ e. cc)
same_or_not (Some xs) None = (λ t. absurd (false≢true t), λ e. cc)
same_or_not (Some xs) (Some ys) = (λ t. ap (λ zs. Some zs) ((bytes_eq-Decides xs ys).0 t), λ e. (bytes_eq-Decides xs ys).1 (same_Some xs ys e))

-- all was noted of the groups that were touched, and what is left of it are those that lead elsewhere
pub noted_of : (rev : ℕ) (old new : Rows) (touched : List ℕ) (es es' all more : List Earlier) → IsStrictlyIncreasing touched → ((i : ℕ) → has touched i ≡ false → led_in new i ≡ led_in old i)
    → AreNotedOf rev (led_in old) touched all → more ≡ filter (leads_elsewhere new) all → es' ≡ es ++ more → IsNoted rev old new es es'
noted_of rev old new touched es es' all more rising same are left noted = record {
  more = more;
  noted = noted;
  once = subst (λ xs. IsDistinct nat_eq (map group_of xs)) (sym left) (left_once (leads_elsewhere new) all (subst (IsDistinct nat_eq) (sym are.of) (rising_once touched rising)));
  each = λ e c.
      let there = left_there (leads_elsewhere new) all e (subst (λ xs. Contains xs e) left c) in
      let was = are.each e there.0 in
      (was.0, was.1, (Decides-not (option_eq (pointwise nat_eq) (led_in new e.group) e.led) (same_or_not (led_in new e.group) e.led)).0 there.1);
  others = λ i. ⊎_elim
      (λ h. let found = of_group all i (ap (λ xs. has xs i) are.of ∙ h) in noted_or_same i found.0 found.1 found.2)
      (λ f. inr (same i f))
      (cases_Bool (has touched i));
}
  where
    noted_or_same : (i : ℕ) (e : Earlier) → Contains all e → e.group ≡ i → ((x : Earlier) × Contains more x × (x.group ≡ i)) ⊎ (led_in new i ≡ led_in old i)
    noted_or_same i e c of = ⊎_elim
        (λ t. inr (subst (λ k. led_in new k ≡ led_in old k) of ((same_or_not (led_in new e.group) e.led).0 t ∙ (are.each e c).1)))
        (λ f. inl (e, subst (λ xs. Contains xs e) (sym left) (there_left (leads_elsewhere new) all e (ap not f) c), of))
        (cases_Bool (option_eq (pointwise nat_eq) (led_in new e.group) e.led))

-- ---- what was not touched

or_false : (a b : Bool) → (a || b) ≡ false → (a ≡ false) × (b ≡ false)
or_false false b e = (refl, e)
or_false true b e = cc

-- the groups that were not told of, and whose rows were not dropped, lead to what they led to
pub untouched_led : (old new : Rows) (told : List Told) (dropped asked touched : List ℕ)
    → ((n : ℕ) → kept new n ≡ in_region old dropped told n) → ((n : ℕ) → stays old dropped n ≡ true → is_told told n ≡ false → row_of new n ≡ row_of old n)
    → asked ≡ nodes_of told → ((i : ℕ) → has touched i ≡ (has asked i || has dropped i)) → (i : ℕ) → has touched i ≡ false → led_in new i ≡ led_in old i
untouched_led old new told dropped asked touched nodes others is both i off =
    let none = or_false (has asked i) (has dropped i) (sym (both i) ∙ off) in
    same none.0 none.1
  where
    untold : has asked i ≡ false → is_told told i ≡ false
    untold e = sym (told_nodes told i) ∙ sym (ap (λ xs. has xs i) is) ∙ e

    none_led : (r : Option Row) → is_some r ≡ false → option_map (λ (row : Row). row.members) r ≡ None
    none_led None e = refl
    none_led (Some row) e = cc

    same : has asked i ≡ false → has dropped i ≡ false → led_in new i ≡ led_in old i
    same a d = ⊎_elim
        (λ h.
        let stay : stays old dropped i ≡ true = ap (λ b. b && not (has dropped i)) h ∙ ap not d in
        ap (λ (r : Option Row). option_map (λ (row : Row). row.members) r) (others i stay (untold a)))
        (λ h.
        let gone : kept new i ≡ false = nodes i ∙ ap (λ b. (b && not (has dropped i)) || is_told told i) h ∙ untold a in
        none_led (row_of new i) gone ∙ sym (none_led (row_of old i) h))
        (cases_Bool (kept old i))
