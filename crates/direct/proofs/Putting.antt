-- Sets that are put in the place of others, one by one, and what is noted of them.
use Rattle.std.proofs.Common.{ℕ, ◌≡◌, ◌<◌, true, false, cond, nat_eq, List, [], ◌∷◌, ◌++◌, length, map, refl, sym, ◌∙◌, ap, subst, arith, ◌⊎◌, ⊎_elim, inl, inr, append-nil, append_assoc}
use Rattle.std.specs.Prelude.{Option, Some, None, Contains, is_some, slice_set}
use Rattle.std.specs.List.{IsDistinct, list_any}
use Rattle.std.specs.Map.{lookup}
use Rattle.std.specs.Ordering.{nat_cmp, is_eq}
use Rattle.std.specs.BTreeMap.{BTreeMap, get}
use Rattle.std.specs.Cmp.{IsEquivalence}
use Rattle.std.proofs.lemmas.Bool.{cases_Bool, false≢true, eqb-true, eq-eqb}
use Rattle.std.proofs.lemmas.List.{map-append}
use Rattle.std.proofs.lemmas.List.Elements.{Contains-append_left, Contains-push, Contains-push_cases}
use Rattle.std.proofs.lemmas.List.Folds.{Any-from_list_any}
use Rattle.std.proofs.lemmas.Map.Keys.{IsDistinct-push}
use Rattle.meaning.proofs.Lists.{contains_none, contains_map_back}
use Rattle.region.specs.Tables.{ids_or}
use Rattle.region.proofs.Listing.{eq_is, turn_eq}
use Rattle.direct.specs.declared.noted.EarlierGroups.{EarlierGroups}
use Rattle.direct.specs.Before.{set_in}
use Rattle.direct.specs.inside.Renewing.{set_or, IsNoted}
use Rattle.direct.proofs.Tables.{set_put}

-- at the end some was noted, and of nobody whose set is still to be put
pub record IsNotedYet (rev : ℕ) (all left : BTreeMap ℕ (List ℕ)) (old new : List (List ℕ)) (es es' : List EarlierGroups) : Type 0 where
  pub more : List EarlierGroups
  pub noted : es' ≡ es ++ more
  pub once : IsDistinct nat_eq (map (λ (e : EarlierGroups). e.user) more)
  pub each : (e : EarlierGroups) → Contains more e → (e.rev ≡ rev) × (is_some (get nat_cmp all e.user) ≡ true) × (get nat_cmp left e.user ≡ None)
  pub was : (e : EarlierGroups) → Contains more e → (e.groups ≡ set_in old e.user) × ¬ (set_in new e.user ≡ e.groups)
  pub others : (user : ℕ) → ((e : EarlierGroups) × Contains more e × (e.user ≡ user)) ⊎ (set_in new user ≡ set_in old user)

numbers_apart : IsEquivalence nat_eq
numbers_apart = record {
  refl = λ x. eq-eqb x x refl;
  symm = λ x y. turn_eq x y;
  congr = λ x y z h. ap (λ k. nat_eq k z) (eqb-true x y h);
}

among : (xs : List ℕ) (x : ℕ) → list_any (nat_eq x) xs ≡ true → Contains xs x
among xs x h =
    let (k, y, lt, at, is) = Any-from_list_any (nat_eq x) xs h in
    subst (λ z. Contains xs z) (sym (eqb-true x y is)) (k, lt, at)

none_not_some : (o : Option (List ℕ)) (s : List ℕ) → o ≡ None → o ≡ Some s → ⊥
none_not_some o s e f = cc

some_is : (o : Option (List ℕ)) (s : List ℕ) → o ≡ Some s → is_some o ≡ true
some_is o s e = ap is_some e

none_twice : IsDistinct nat_eq []
unfolding IsDistinct
none_twice = tt

pub noted_begins : (rev : ℕ) (all : BTreeMap ℕ (List ℕ)) (sets : List (List ℕ)) (es : List EarlierGroups) → IsNotedYet rev all all sets sets es es
noted_begins rev all sets es = record {
  more = [];
  noted = sym (append-nil es);
  once = none_twice;
  each = λ e c. absurd (contains_none e c);
  was = λ e c. absurd (contains_none e c);
  others = λ user. inr refl;
}

pub noted_ends : (rev : ℕ) (all left : BTreeMap ℕ (List ℕ)) (old new : List (List ℕ)) (es es' : List EarlierGroups) → IsNotedYet rev all left old new es es' → IsNoted rev all old new es es'
noted_ends rev all left old new es es' yet = record {
  more = yet.more;
  noted = yet.noted;
  once = yet.once;
  each = λ e c. let one = yet.each e c in (one.0, one.1);
  was = yet.was;
  others = yet.others;
}

module _ (all left left' : BTreeMap ℕ (List ℕ)) (user : ℕ) (groups : List ℕ) (at : get nat_cmp left user ≡ Some groups)
    (up : (q : ℕ) → get nat_cmp left' q ≡ cond (is_eq (nat_cmp user q)) None (get nat_cmp left q)) where
  gone : get nat_cmp left' user ≡ None
  gone = up user ∙ ap (λ b. cond b None (get nat_cmp left user)) (eq_is user user ∙ eq-eqb user user refl)

  others : (q : ℕ) → nat_eq q user ≡ false → get nat_cmp left' q ≡ get nat_cmp left q
  others q f = up q ∙ ap (λ b. cond b None (get nat_cmp left q)) (eq_is user q ∙ turn_eq user q ∙ f)

  stays_none : (q : ℕ) → get nat_cmp left q ≡ None → get nat_cmp left' q ≡ None
  stays_none q none = ⊎_elim (λ t. ap (get nat_cmp left') (eqb-true q user t) ∙ gone) (λ f. others q f ∙ none) (cases_Bool (nat_eq q user))

  pub was_left : (q : ℕ) → is_some (get nat_cmp left' q) ≡ true → is_some (get nat_cmp left q) ≡ true
  was_left q h = ⊎_elim
      (λ t. absurd (false≢true (sym (ap is_some (ap (get nat_cmp left') (eqb-true q user t) ∙ gone)) ∙ h)))
      (λ f. sym (ap is_some (others q f)) ∙ h)
      (cases_Bool (nat_eq q user))

  pub is_left : is_some (get nat_cmp left user) ≡ true
  is_left = some_is (get nat_cmp left user) groups at

  -- the sets that are to be are those that were to be
  pub put_next : (sets : List (List ℕ)) → user < length sets → (other : ℕ) → set_or left' (slice_set sets user groups) other ≡ set_or left sets other
  put_next sets lt other = ⊎_elim
      (λ t.
      let is = eqb-true other user t in
      ap (λ o. ids_or o (set_in (slice_set sets user groups) other)) (ap (get nat_cmp left') is ∙ gone)
      ∙ set_put sets user groups lt other ∙ ap (λ b. cond b groups (set_in sets other)) t
      ∙ sym (ap (λ o. ids_or o (set_in sets other)) (ap (get nat_cmp left) is ∙ at)))
      (λ f. ap (λ o. ids_or o (set_in (slice_set sets user groups) other)) (others other f)
      ∙ ap (ids_or (get nat_cmp left other)) (set_put sets user groups lt other ∙ ap (λ b. cond b groups (set_in sets other)) f))
      (cases_Bool (nat_eq other user))

  -- so they are where the set that is to be is the one that is kept
  pub put_same : (sets : List (List ℕ)) → groups ≡ set_in sets user → (other : ℕ) → set_or left' sets other ≡ set_or left sets other
  put_same sets is other = ⊎_elim
      (λ t.
      let same = eqb-true other user t in
      ap (λ o. ids_or o (set_in sets other)) (ap (get nat_cmp left') same ∙ gone)
      ∙ ap (set_in sets) same ∙ sym is
      ∙ sym (ap (λ o. ids_or o (set_in sets other)) (ap (get nat_cmp left) same ∙ at)))
      (λ f. ap (λ o. ids_or o (set_in sets other)) (others other f))
      (cases_Bool (nat_eq other user))

  -- whose set is to be put was not noted yet
  not_yet : (rev : ℕ) (old new : List (List ℕ)) (es es' : List EarlierGroups) (yet : IsNotedYet rev all left old new es es') (e : EarlierGroups) → Contains yet.more e → e.user ≡ user → ⊥
  not_yet rev old new es es' yet e c same = none_not_some (get nat_cmp left user) groups (ap (get nat_cmp left) (sym same) ∙ (yet.each e c).2) at

  pub noted_same : (rev : ℕ) (old new : List (List ℕ)) (es es' : List EarlierGroups) → IsNotedYet rev all left old new es es' → IsNotedYet rev all left' old new es es'
  noted_same rev old new es es' yet = record {
    more = yet.more;
    noted = yet.noted;
    once = yet.once;
    each = λ e c. let one = yet.each e c in (one.0, one.1, stays_none e.user one.2);
    was = yet.was;
    others = yet.others;
  }

  pub noted_next : (rev : ℕ) (old sets : List (List ℕ)) (es es' last : List EarlierGroups) (e : EarlierGroups) → user < length sets → e.rev ≡ rev → e.user ≡ user → e.groups ≡ set_in sets user
      → (groups ≡ set_in sets user → ⊥) → is_some (get nat_cmp all user) ≡ true → last ≡ es' ++ e ∷ []
      → IsNotedYet rev all left old sets es es' → IsNotedYet rev all left' old (slice_set sets user groups) es last
  noted_next rev old sets es es' last e lt of is were differ there put yet = record {
    more = yet.more ++ e ∷ [];
    noted = put ∙ ap (λ xs. xs ++ e ∷ []) yet.noted ∙ append_assoc es yet.more (e ∷ []);
    once = subst (IsDistinct nat_eq) (sym (map-append (λ (x : EarlierGroups). x.user) yet.more (e ∷ [])))
        (IsDistinct-push numbers_apart (map (λ (x : EarlierGroups). x.user) yet.more) e.user yet.once
        (⊎_elim (λ h. absurd (twice h)) (λ f. f) (cases_Bool (list_any (nat_eq e.user) (map (λ (x : EarlierGroups). x.user) yet.more)))));
    each = λ x c. ⊎_elim
        (λ d. let one = yet.each x d in (one.0, one.1, stays_none x.user one.2))
        (λ d. subst (λ (y : EarlierGroups). (y.rev ≡ rev) × (is_some (get nat_cmp all y.user) ≡ true) × (get nat_cmp left' y.user ≡ None)) d
        (of, ap (λ k. is_some (get nat_cmp all k)) is ∙ there, ap (get nat_cmp left') is ∙ gone))
        (Contains-push_cases yet.more e x c);
    was = λ x c. ⊎_elim
        (λ d. let one = yet.was x d in (one.0, λ same. one.1 (sym (elsewhere x.user (apart x d)) ∙ same)))
        (λ d. subst (λ (y : EarlierGroups). (y.groups ≡ set_in old y.user) × ¬ (set_in (slice_set sets user groups) y.user ≡ y.groups)) d
        (were ∙ before ∙ ap (set_in old) (sym is), λ same. differ (sym here ∙ ap (set_in (slice_set sets user groups)) (sym is) ∙ same ∙ were)))
        (Contains-push_cases yet.more e x c);
    others = λ q. ⊎_elim
        (λ t. inl (e, Contains-push yet.more e, is ∙ sym (eqb-true q user t)))
        (λ f. ⊎_elim
        (λ (x, c, same). inl (x, Contains-append_left yet.more (e ∷ []) x c, same))
        (λ same. inr (elsewhere q f ∙ same))
        (yet.others q))
        (cases_Bool (nat_eq q user));
  }
    where
      elsewhere : (q : ℕ) → nat_eq q user ≡ false → set_in (slice_set sets user groups) q ≡ set_in sets q
      elsewhere q f = set_put sets user groups lt q ∙ ap (λ b. cond b groups (set_in sets q)) f

      here : set_in (slice_set sets user groups) user ≡ groups
      here = set_put sets user groups lt user ∙ ap (λ b. cond b groups (set_in sets user)) (eq-eqb user user refl)

      apart : (x : EarlierGroups) → Contains yet.more x → nat_eq x.user user ≡ false
      apart x d = ⊎_elim (λ t. absurd (not_yet rev old sets es es' yet x d (eqb-true x.user user t))) (λ f. f) (cases_Bool (nat_eq x.user user))

      before : set_in sets user ≡ set_in old user
      before = ⊎_elim (λ (x, c, same). absurd (not_yet rev old sets es es' yet x c same)) (λ same. same) (yet.others user)

      twice : list_any (nat_eq e.user) (map (λ (x : EarlierGroups). x.user) yet.more) ≡ true → ⊥
      twice h =
          let (x, c, same) = contains_map_back (λ (y : EarlierGroups). y.user) yet.more e.user (among (map (λ (y : EarlierGroups). y.user) yet.more) e.user h) in
          not_yet rev old sets es es' yet x c (same ∙ is)

pub nowhere : (left : BTreeMap ℕ (List ℕ)) (user : ℕ) → left.entries ≡ [] → get nat_cmp left user ≡ None
nowhere left user none = ap (λ es. lookup (λ k. is_eq (nat_cmp user k)) es) none

-- where none is left to be put, the sets are what they were to be
pub put_all : (left : BTreeMap ℕ (List ℕ)) (sets : List (List ℕ)) (user : ℕ) → left.entries ≡ [] → set_or left sets user ≡ set_in sets user
put_all left sets user none = ap (λ o. ids_or o (set_in sets user)) (nowhere left user none)

pub nothing_left : {A : Type 0} (xs : List A) → (0 < length xs → ⊥) → xs ≡ []
nothing_left [] none = refl
nothing_left (x ∷ xs) none = absurd (none (omega arith))
