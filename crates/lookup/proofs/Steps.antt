-- One object more.
use Rattle.std.proofs.Common.{◌≡◌, ℕ, ◌+◌, ◌≤◌, List, [], ◌∷◌, ◌++◌, length, Bool, true, false, true≢false, refl, ap, sym, subst, ◌∙◌, inl, inr, ⊎_elim, arith, length-append}
use Rattle.std.specs.Prelude.{◌⊎◌, ◌↔◌, IsTrue, Contains, Some, if◌then◌else◌}
use Rattle.std.specs.List.Sorted.{IsStrictlySortedBy}
use Rattle.std.specs.Cmp.Lexicographic.{slice_cmp, nat_list_cmp_total}
use Rattle.std.specs.Ordering.{nat_cmp, is_lt}
use Rattle.std.specs.declared.cmp.Ordering.{Ordering}
use Rattle.std.specs.declared.cmp.Ordering.TheVariants.{Less, Equal, Greater}
use Rattle.std.proofs.lemmas.Cmp.{tied_itself}
use Rattle.std.proofs.lemmas.List.Elements.{Contains-append_left, Contains-push, Contains-push_cases}
use Rattle.std.proofs.lemmas.Map.Lookups.{exact_bytes}
use Rattle.meaning.specs.Snap.{Snap}
use Rattle.meaning.specs.Membership.{IsMember}
use Rattle.meaning.proofs.Lists.{contains_cases, contains_none}
use Rattle.lookup.specs.declared.asked.Lookup.{Lookup}
use Rattle.lookup.specs.declared.looking.Found.{Found}
use Rattle.lookup.specs.Found.{node_of, is_later, IsFound}
use Rattle.lookup.specs.inside.Underway.{IsRising, IsUnderway}
use Rattle.lookup.proofs.Ids.{between, later_on, turned, turned_back, sorted_push}

nothing_sorted : IsStrictlySortedBy (slice_cmp nat_cmp) []
unfolding IsStrictlySortedBy
nothing_sorted = tt

-- nothing was found yet, and all that are found are left
pub begins : (S : Snap) (asked : Lookup) (found : Found) (left : List (List ℕ)) → IsRising left → ((id : List ℕ) → IsFound S asked id → Contains left id)
    → found.ids.items ≡ [] → found.last ≡ asked.after → IsUnderway S asked found left
begins S asked found left rising there none last = record {
  rising = rising;
  behind = λ id l. sym (ap (λ o. is_later o id) last) ∙ l;
  sorted = subst (IsStrictlySortedBy (slice_cmp nat_cmp)) (sym none) nothing_sorted;
  few = subst (λ (xs : List (List ℕ)). length xs ≤ asked.limit) (sym none) (omega arith);
  only = λ id c. absurd (contains_none id (subst (λ (xs : List (List ℕ)). Contains xs id) none c));
  others = λ id f. inr (ap (λ o. is_later o id) last ∙ f.1, inl (there id f));
}

module _ (S : Snap) (asked : Lookup) (found : Found) (id : List ℕ) (left : List (List ℕ)) (is : IsUnderway S asked found (id ∷ left)) where
  -- it was asked for before
  pub passed : is_later found.last id ≡ false → IsUnderway S asked found left
  passed before = record {
    rising = is.rising.1;
    behind = is.behind;
    sorted = is.sorted;
    few = is.few;
    only = is.only;
    others = λ x f. ⊎_elim inl (λ r. inr (r.0, ⊎_elim (λ c. inl (later x r.0 c)) inr r.1)) (is.others x f);
  }
    where
      later : (x : List ℕ) → is_later found.last x ≡ true → Contains (id ∷ left) x → Contains left x
      later x l c = ⊎_elim (λ e. absurd (true≢false (sym l ∙ ap (is_later found.last) (sym e) ∙ before))) (λ d. d) (contains_cases id x left c)

  -- there are as many as are asked for
  pub enough : asked.limit ≤ length found.ids.items → IsUnderway S asked found left
  enough full =
      let all : length found.ids.items ≡ asked.limit = omega (arith, full, is.few) in
      record {
        rising = is.rising.1;
        behind = is.behind;
        sorted = is.sorted;
        few = is.few;
        only = is.only;
        others = λ x f. ⊎_elim inl (λ r. inr (r.0, inr all)) (is.others x f);
      }

  module _ (room : length found.ids.items + 1 ≤ asked.limit) (fresh : is_later found.last id ≡ true) (now : Found) (last : now.last ≡ Some id) where
    still_behind : (x : List ℕ) → is_later now.last x ≡ true → is_later asked.after x ≡ true
    still_behind x l = is.behind x (later_on found.last id x fresh (sym (ap (λ o. is_later o x) last) ∙ l))

    up_to : (x : List ℕ) → is_later found.last x ≡ false → is_later now.last x ≡ false
    up_to x before = ap (λ o. is_later o x) last ∙ ap is_lt (turned_back x id (between found.last x id before fresh))

    -- one that is found and comes later is this, or one of those that are left
    here_or_left : (x : List ℕ) → Contains (id ∷ left) x ⊎ (length found.ids.items ≡ asked.limit) → (id ≡ x) ⊎ ((is_later now.last x ≡ true) × Contains left x)
    here_or_left x (inr full) = absurd (omega (arith, room, full))
    here_or_left x (inl c) = ⊎_elim inl (λ d. by d (slice_cmp nat_cmp id x) refl) (contains_cases id x left c)
      where
        by : Contains left x → (o : Ordering) → slice_cmp nat_cmp id x ≡ o → (id ≡ x) ⊎ ((is_later now.last x ≡ true) × Contains left x)
        by d Less e = inr (ap (λ o. is_later o x) last ∙ ap is_lt e, d)
        by d Equal e = inl (exact_bytes id x e)
        by d Greater e = absurd (is.rising.0 x d (turned id x e))

    without_it : (IsMember S asked.user (node_of asked.relation id) → ⊥) → now.ids.items ≡ found.ids.items → IsUnderway S asked now left
    without_it lacks same = record {
      rising = is.rising.1;
      behind = still_behind;
      sorted = subst (IsStrictlySortedBy (slice_cmp nat_cmp)) (sym same) is.sorted;
      few = subst (λ (xs : List (List ℕ)). length xs ≤ asked.limit) (sym same) is.few;
      only = λ x c. let o = is.only x (subst (λ (xs : List (List ℕ)). Contains xs x) same c) in (o.0, up_to x o.1);
      others = λ x f. ⊎_elim
          (λ c. inl (subst (λ (xs : List (List ℕ)). Contains xs x) (sym same) c))
          (λ r. ⊎_elim
          (λ e. absurd (lacks (subst (λ (y : List ℕ). IsMember S asked.user (node_of asked.relation y)) (sym e) f.0)))
          (λ q. inr (q.0, inl q.1))
          (here_or_left x r.1))
          (is.others x f);
    }

    with_it : IsMember S asked.user (node_of asked.relation id) → now.ids.items ≡ found.ids.items ++ id ∷ [] → IsUnderway S asked now left
    with_it member more =
        let long = length-append found.ids.items (id ∷ []) in
        let itself : is_later now.last id ≡ false = ap (λ o. is_later o id) last ∙ ap is_lt (tied_itself nat_list_cmp_total id) in
        record {
          rising = is.rising.1;
          behind = still_behind;
          sorted = subst (IsStrictlySortedBy (slice_cmp nat_cmp)) (sym more) (sorted_push found.ids.items id is.sorted (λ y c. between found.last y id (is.only y c).1 fresh));
          few = subst (λ (xs : List (List ℕ)). length xs ≤ asked.limit) (sym more) (omega (arith, long, room));
          only = λ x c. ⊎_elim
              (λ d. let o = is.only x d in (o.0, up_to x o.1))
              (λ e. subst (λ (y : List ℕ). IsFound S asked y × (is_later now.last y ≡ false)) e ((member, is.behind id fresh), itself))
              (Contains-push_cases found.ids.items id x (subst (λ (xs : List (List ℕ)). Contains xs x) more c));
          others = λ x f. ⊎_elim
              (λ c. inl (subst (λ (xs : List (List ℕ)). Contains xs x) (sym more) (Contains-append_left found.ids.items (id ∷ []) x c)))
              (λ r. ⊎_elim
              (λ e. inl (subst (λ (xs : List (List ℕ)). Contains xs x) (sym more) (subst (Contains (found.ids.items ++ id ∷ [])) e (Contains-push found.ids.items id))))
              (λ q. inr (q.0, inl q.1))
              (here_or_left x r.1))
              (is.others x f);
        }

    pub judged : (has : Bool) → IsTrue has ↔ IsMember S asked.user (node_of asked.relation id) → now.ids.items ≡ (if has then found.ids.items ++ id ∷ [] else found.ids.items) → IsUnderway S asked now left
    judged true answer ids = with_it (answer.0 refl) ids
    judged false answer ids = without_it (λ m. true≢false (sym (answer.1 m))) ids

-- the same of all that are left
pub enough_of : (S : Snap) (asked : Lookup) (found : Found) (ids left : List (List ℕ)) → IsUnderway S asked found (ids ++ left) → asked.limit ≤ length found.ids.items → IsUnderway S asked found left
enough_of S asked found [] left is full = is
enough_of S asked found (id ∷ ids) left is full = enough_of S asked found ids left (enough S asked found id (ids ++ left) is full) full
