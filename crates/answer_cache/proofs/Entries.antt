-- What stands in the list of answers after a look-up and after a `put`.
use Rattle.std.proofs.Common.{◌≡◌, ℕ, zero, suc, ◌+◌, ◌-◌, ◌≤◌, Bool, true, false, cond, ◌⊎◌, List, [], ◌∷◌, length, take, Some, None, refl, sym, ap, ◌∙◌, subst, inl, inr, arith}
use Rattle.std.specs.Prelude.{Contains}
use Rattle.std.specs.Option.{option_map_or}
use Rattle.std.specs.List.{IsDistinct, AllByRecursion}
use Rattle.std.specs.Map.{keys_of, lookup, lookup_entry, remove_entry}
use Rattle.std.proofs.lemmas.List.{take_all}
use Rattle.std.proofs.lemmas.Map.Keys.{IsDistinct-head, IsDistinct-tail, IsDistinct-cons}
use Rattle.lru.specs.LruCache.{LruCache, promoted, put_entries}
use Rattle.lru.proofs.CallerLemmas.{Contains-lookup, Contains-remove_entry, Contains-take}
use Rattle.lru.proofs.Splits.{Contains-head, Contains-tail, Contains-cons, Contains-nil, all_at, all_from, all_map, all_unmap}
use Rattle.answer_cache.specs.declared.question.Question.{Question}
use Rattle.answer_cache.specs.declared.cached.TheConstants.{CAPACITY}
use Rattle.answer_cache.specs.Questions.{is_same}
use Rattle.answer_cache.specs.Kept.{answer_first, answers_with, HasOneAnswerEach}
use Rattle.answer_cache.proofs.Same.{same, itself}

abbrev Answers : Type 0
Answers = List (Question × Bool)

apart : (q r : Question) → is_same q r ≡ false → q ≡ r → ⊥
apart q r other e = let yes : is_same q r ≡ true = subst (λ x. is_same q x ≡ true) e (itself q) in cc

-- no question of the list is this one
not_among : (q : Question) (b : Bool) (es : Answers) → IsDistinct is_same (keys_of ((q, b) ∷ es)) → (a : Bool) → Contains es (q, a) → ⊥
not_among q b es distinct a held =
    apart q q (all_at (λ (e : Question × Bool). is_same q e.0 ≡ false) es (q, a) (all_unmap (λ (e : Question × Bool). e.0) (λ k. is_same q k ≡ false) es (IsDistinct-head is_same q (keys_of es) distinct)) held) refl

pub one_answer_each : (es : Answers) → IsDistinct is_same (keys_of es) → HasOneAnswerEach es
one_answer_each [] distinct q a b first_held second_held = absurd (Contains-nil (q, a) first_held)
one_answer_each (e ∷ es) distinct q a b first_held second_held = elim (Contains-cons e es (q, a) first_held) [
  | inl here ↦ elim (Contains-cons e es (q, b) second_held) [
    | inl here' ↦ ap (λ x. x.1) (sym here ∙ here')
    | inr there' ↦ absurd (not_among q a es (subst (λ x. IsDistinct is_same (keys_of (x ∷ es))) here distinct) b there')
  ]
  | inr there ↦ elim (Contains-cons e es (q, b) second_held) [
    | inl here' ↦ absurd (not_among q b es (subst (λ x. IsDistinct is_same (keys_of (x ∷ es))) here' distinct) a there)
    | inr there' ↦ one_answer_each es (IsDistinct-tail is_same e.0 (keys_of es) distinct) q a b there there'
  ]
]

-- what is apart from each of some questions is so from each of those that are left of them
all_fewer : (q : Question) (es ds : Answers) → ((e : Question × Bool) → Contains ds e → Contains es e) → AllByRecursion (λ k. is_same q k ≡ false) (keys_of es) → AllByRecursion (λ k. is_same q k ≡ false) (keys_of ds)
all_fewer q es ds fewer h =
    let P : Question → Type 0 = λ k. is_same q k ≡ false in let key : Question × Bool → Question = λ e. e.0 in
    all_map key P ds (all_from (λ (e : Question × Bool). P e.0) ds (λ e held. all_at (λ (f : Question × Bool). P f.0) es e (all_unmap key P es h) (fewer e held)))

distinct_removed : (test : Question → Bool) (es : Answers) → IsDistinct is_same (keys_of es) → IsDistinct is_same (keys_of (remove_entry test es))
distinct_removed test [] distinct = distinct
distinct_removed test (f ∷ es) distinct = (elim (test f.0) as (λ y. IsDistinct is_same (keys_of (cond y es (f ∷ remove_entry test es)))) [
  | true ↦ IsDistinct-tail is_same f.0 (keys_of es) distinct
  | false ↦ IsDistinct-cons is_same f.0 (keys_of (remove_entry test es)) (all_fewer f.0 es (remove_entry test es) (Contains-remove_entry test es) (IsDistinct-head is_same f.0 (keys_of es) distinct)) (distinct_removed test es (IsDistinct-tail is_same f.0 (keys_of es) distinct))
])

distinct_taken : (n : ℕ) (es : Answers) → IsDistinct is_same (keys_of es) → IsDistinct is_same (keys_of (take n es))
unfolding IsDistinct
distinct_taken zero es distinct = tt
distinct_taken (suc n) [] distinct = distinct
distinct_taken (suc n) (f ∷ es) distinct =
    IsDistinct-cons is_same f.0 (keys_of (take n es)) (all_fewer f.0 es (take n es) (Contains-take n es) (IsDistinct-head is_same f.0 (keys_of es) distinct)) (distinct_taken n es (IsDistinct-tail is_same f.0 (keys_of es) distinct))

pub few_taken : (n : ℕ) (es : Answers) → length (take n es) ≤ n
few_taken zero es = omega arith
few_taken (suc n) [] = omega arith
few_taken (suc n) (f ∷ es) = let on = few_taken n es in omega arith

module _ (q : Question) where
  none_left : (es : Answers) → IsDistinct is_same (keys_of es) → AllByRecursion (λ k. is_same q k ≡ false) (keys_of (remove_entry (is_same q) es))
  none_left [] distinct = tt
  none_left (f ∷ es) distinct = (elim (is_same q f.0) as (λ y. is_same q f.0 ≡ y → AllByRecursion (λ k. is_same q k ≡ false) (keys_of (cond y es (f ∷ remove_entry (is_same q) es)))) [
    | true ↦ λ t. subst (λ k. AllByRecursion (λ j. is_same k j ≡ false) (keys_of es)) (sym (same q f.0 t)) (IsDistinct-head is_same f.0 (keys_of es) distinct)
    | false ↦ λ t. (t, none_left es (IsDistinct-tail is_same f.0 (keys_of es) distinct))
  ]) refl

  pub distinct_first : (es : Answers) (b : Bool) → IsDistinct is_same (keys_of es) → IsDistinct is_same (keys_of (answer_first q b es))
  distinct_first es b distinct =
      IsDistinct-cons is_same q (keys_of (remove_entry (is_same q) es)) (none_left es distinct) (distinct_removed (is_same q) es distinct)

  pub distinct_with : (es : Answers) (b : Bool) → IsDistinct is_same (keys_of es) → IsDistinct is_same (keys_of (answers_with q b es))
  distinct_with es b distinct = distinct_taken CAPACITY (answer_first q b es) (distinct_first es b distinct)

  pub found : (es : Answers) (b : Bool) → lookup (is_same q) es ≡ Some b → Contains es (q, b)
  found es b h = let at = Contains-lookup (is_same q) es b h in subst (λ k. Contains es (k, b)) (sym (same q at.0 at.2)) at.1

  found_entry : (es : Answers) (b : Bool) → lookup (is_same q) es ≡ Some b → lookup_entry (is_same q) es ≡ Some (q, b)
  found_entry [] b h = cc
  found_entry (f ∷ es) b h = (elim (is_same q f.0) as (λ y. is_same q f.0 ≡ y → cond y (Some f) (lookup_entry (is_same q) es) ≡ Some (q, b)) [
    | true ↦ λ t. let h' = rw t at h in let value : f.1 ≡ b = cc in
        ap (λ k. Some (k, f.1)) (sym (same q f.0 t)) ∙ ap (λ v. Some (q, v)) value
    | false ↦ λ t. found_entry es b (rw t at h)
  ]) refl

  pub missed : (es : Answers) → lookup (is_same q) es ≡ None → (b : Bool) → Contains es (q, b) → ⊥
  missed [] h b held = Contains-nil (q, b) held
  missed (f ∷ es) h b held = (elim (is_same q f.0) as (λ y. is_same q f.0 ≡ y → ⊥) [
    | true ↦ λ t. let h' = rw t at h in cc
    | false ↦ λ t. elim (Contains-cons f es (q, b) held) [
      | inl here ↦ apart q f.0 t (sym (ap (λ x. x.0) here))
      | inr there ↦ missed es (rw t at h) b there
    ]
  ]) refl

  missed_entry : (es : Answers) → lookup (is_same q) es ≡ None → lookup_entry (is_same q) es ≡ None
  missed_entry [] h = refl
  missed_entry (f ∷ es) h = (elim (is_same q f.0) as (λ y. is_same q f.0 ≡ y → cond y (Some f) (lookup_entry (is_same q) es) ≡ None) [
    | true ↦ λ t. let h' = rw t at h in cc
    | false ↦ λ t. missed_entry es (rw t at h)
  ]) refl

  unremoved : (es : Answers) → lookup (is_same q) es ≡ None → remove_entry (is_same q) es ≡ es
  unremoved [] h = refl
  unremoved (f ∷ es) h = (elim (is_same q f.0) as (λ y. is_same q f.0 ≡ y → cond y es (f ∷ remove_entry (is_same q) es) ≡ f ∷ es) [
    | true ↦ λ t. let h' = rw t at h in cc
    | false ↦ λ t. ap (λ l. f ∷ l) (unremoved es (rw t at h))
  ]) refl

  length-removed : (es : Answers) (b : Bool) → lookup (is_same q) es ≡ Some b → length (remove_entry (is_same q) es) + 1 ≡ length es
  length-removed [] b h = cc
  length-removed (f ∷ es) b h = (elim (is_same q f.0) as (λ y. is_same q f.0 ≡ y → length (cond y es (f ∷ remove_entry (is_same q) es)) + 1 ≡ length (f ∷ es)) [
    | true ↦ λ t. omega arith
    | false ↦ λ t. let on = length-removed es b (rw t at h) in omega arith
  ]) refl

  pub length-first : (es : Answers) (b : Bool) → lookup (is_same q) es ≡ Some b → length (answer_first q b es) ≡ length es
  length-first es b h = let less = length-removed es b h in omega arith

  -- an answer of another question is still there
  kept_on : (es : Answers) (r : Question) (a : Bool) → is_same q r ≡ false → Contains es (r, a) → Contains (remove_entry (is_same q) es) (r, a)
  kept_on [] r a other held = held
  kept_on (f ∷ es) r a other held = (elim (is_same q f.0) as (λ y. is_same q f.0 ≡ y → Contains (cond y es (f ∷ remove_entry (is_same q) es)) (r, a)) [
    | true ↦ λ t. elim (Contains-cons f es (r, a) held) [
      | inl here ↦ absurd (apart q r other (same q f.0 t ∙ ap (λ x. x.0) here))
      | inr there ↦ there
    ]
    | false ↦ λ t. elim (Contains-cons f es (r, a) held) [
      | inl here ↦ subst (λ x. Contains (f ∷ remove_entry (is_same q) es) x) here (Contains-head f (remove_entry (is_same q) es))
      | inr there ↦ Contains-tail f (remove_entry (is_same q) es) (r, a) (kept_on es r a other there)
    ]
  ]) refl

  -- ---- after a look-up

  pub used : (es : Answers) (b : Bool) → lookup (is_same q) es ≡ Some b → promoted (is_same q) es ≡ answer_first q b es
  used es b h = ap (λ o. option_map_or (λ e. e ∷ remove_entry (is_same q) es) o es) (found_entry es b h)

  pub unused : (es : Answers) → lookup (is_same q) es ≡ None → promoted (is_same q) es ≡ es
  unused es h = ap (λ o. option_map_or (λ e. e ∷ remove_entry (is_same q) es) o es) (missed_entry es h)

  -- whatever stands in the list with this answer first is this answer, or stood in the list
  pub from_first : (es : Answers) (b : Bool) (e : Question × Bool) → Contains (answer_first q b es) e → ((q, b) ≡ e) ⊎ Contains es e
  from_first es b e held = elim (Contains-cons (q, b) (remove_entry (is_same q) es) e held) [
    | inl here ↦ inl here
    | inr there ↦ inr (Contains-remove_entry (is_same q) es e there)
  ]

  pub into_first : (es : Answers) (b : Bool) → IsDistinct is_same (keys_of es) → Contains es (q, b) → (r : Question) (a : Bool) → Contains es (r, a) → Contains (answer_first q b es) (r, a)
  into_first es b distinct this r a held = (elim (is_same q r) as (λ y. is_same q r ≡ y → Contains (answer_first q b es) (r, a)) [
    | true ↦ λ t. let here : q ≡ r = same q r t in
        let value : b ≡ a = one_answer_each es distinct r b a (subst (λ k. Contains es (k, b)) here this) held in
        subst (λ k. Contains (answer_first q b es) (k, a)) here (subst (λ v. Contains (answer_first q b es) (q, v)) value (Contains-head (q, b) (remove_entry (is_same q) es)))
    | false ↦ λ t. Contains-tail (q, b) (remove_entry (is_same q) es) (r, a) (kept_on es r a t held)
  ]) refl

  -- ---- after a `put`

  put_found : (c : LruCache Question Bool) (b a : Bool) → length c.entries ≤ CAPACITY → lookup (is_same q) c.entries ≡ Some a → put_entries is_same c q b ≡ answers_with q b c.entries
  put_found c b a few h =
      let less = length-removed c.entries a h in
      ap (λ o. option_map_or (λ e. (e.0, b) ∷ remove_entry (is_same q) c.entries) o ((q, b) ∷ take (c.cap - 1) c.entries)) (found_entry c.entries a h)
      ∙ sym (take_all CAPACITY (answer_first q b c.entries) (omega arith))

  put_missed : (c : LruCache Question Bool) (b : Bool) → c.cap ≡ CAPACITY → lookup (is_same q) c.entries ≡ None → put_entries is_same c q b ≡ answers_with q b c.entries
  put_missed c b capacity h =
      ap (λ o. option_map_or (λ e. (e.0, b) ∷ remove_entry (is_same q) c.entries) o ((q, b) ∷ take (c.cap - 1) c.entries)) (missed_entry c.entries h)
      ∙ ap (λ n. (q, b) ∷ take (n - 1) c.entries) capacity
      ∙ ap (λ l. take CAPACITY ((q, b) ∷ l)) (sym (unremoved c.entries h))

  pub put : (c : LruCache Question Bool) (b : Bool) → c.cap ≡ CAPACITY → length c.entries ≤ CAPACITY → put_entries is_same c q b ≡ answers_with q b c.entries
  put c b capacity few = (elim (lookup (is_same q) c.entries) as (λ o. lookup (is_same q) c.entries ≡ o → put_entries is_same c q b ≡ answers_with q b c.entries) [
    | Some a ↦ λ h. put_found c b a few h
    | None ↦ λ h. put_missed c b capacity h
  ]) refl

  pub from_with : (es : Answers) (b : Bool) (e : Question × Bool) → Contains (answers_with q b es) e → ((q, b) ≡ e) ⊎ Contains es e
  from_with es b e held = from_first es b e (Contains-take CAPACITY (answer_first q b es) e held)

  pub has_this : (es : Answers) (b : Bool) → Contains (answers_with q b es) (q, b)
  has_this es b = Contains-head (q, b) (take (CAPACITY - 1) (remove_entry (is_same q) es))
