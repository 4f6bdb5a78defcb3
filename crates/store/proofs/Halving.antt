-- Configurations whose revisions ascend, parted at a revision.
use Rattle.std.proofs.Common.{◌≡◌, ℕ, ◌+◌, ◌-◌, ◌<◌, ◌≤◌, ◌⊎◌, inl, inr, List, [], ◌∷◌, length, get_or, zero, suc, refl, ap, sym, subst, ◌∙◌, arith}
use Rattle.std.specs.Prelude.{cond, ◌&&◌, nat_lt, nat_le, map, All, Some, None}
use Rattle.std.proofs.lemmas.Bool.{cases_lt, eq-eqb, ne_eqb}
use Rattle.std.proofs.lemmas.List.{get_or_default}
use Rattle.std.proofs.lemmas.List.Elements.{All-head, All-tail}
use Rattle.meaning.specs.Config.{empty_config}
use Rattle.store.specs.Written.{ConfigAt, config_at, last_up_to}
use Rattle.store.specs.declared.parts.ReadConfig.{ReadConfig}
use Rattle.store.specs.inside.Reading.{as_config, Rise, ArePartedAt}
use Rattle.store.proofs.Admitting.{le_false, lt_false, right_false, last_first}

-- each is of an earlier revision than those after it
abbrev pub Rises : List ReadConfig → Type 0
Rises xs = (i j : ℕ) (d : ReadConfig) → i < j → j < length xs → (get_or xs i d).rev < (get_or xs j d).rev

pub rises : (configs : List ReadConfig) → Rise configs → Rises configs
rises configs rise i zero d less within = absurd (omega (arith, less))
rises configs rise i (suc j) d less within = by_place (cases_lt i j) (λ l. rises configs rise i j d l (omega (arith, within)))
  where
    next : (get_or configs j d).rev < (get_or configs (suc j) d).rev
    next =
        let P : ℕ → Type 0 = λ n. (get_or configs j d).rev < (get_or configs n d).rev in
        let e : j + 1 ≡ suc j = omega arith in
        subst P e (rise.1 j d (omega (arith, within))).0

    by_place : (i < j) ⊎ (j ≤ i) → (i < j → (get_or configs i d).rev < (get_or configs j d).rev) → (get_or configs i d).rev < (get_or configs (suc j) d).rev
    by_place (inl l) earlier = let far = earlier l in let near = next in omega (arith, far, near)
    by_place (inr g) earlier =
        let P : ℕ → Type 0 = λ n. (get_or configs n d).rev < (get_or configs (suc j) d).rev in
        let e : j ≡ i = omega (arith, less, g) in
        subst P e next

tail_rises : (x : ReadConfig) (xs : List ReadConfig) → Rises (x ∷ xs) → Rises xs
tail_rises x xs rise i j d less within = rise (suc i) (suc j) d (omega (arith, less)) (omega (arith, within))

-- ---- by halves

module _ (configs : List ReadConfig) (rise : Rises configs) (rev at : ℕ) (x : ReadConfig) (within : at < length configs) (is : x ≡ get_or configs at x) where
  same_rev : (d : ReadConfig) → (get_or configs at d).rev ≡ x.rev
  same_rev d = ap (λ (y : ReadConfig). y.rev) (sym (is ∙ get_or_default configs at x d within))

  pub up_to_it : x.rev ≤ rev → (k : ℕ) (d : ReadConfig) → k < at + 1 → (get_or configs k d).rev ≤ rev
  up_to_it le k d less = by_place (cases_lt k at)
    where
      by_place : (k < at) ⊎ (at ≤ k) → (get_or configs k d).rev ≤ rev
      by_place (inl l) = let far = rise k at d l within in let same = same_rev d in omega (arith, far, same, le)
      by_place (inr g) =
          let P : ℕ → Type 0 = λ n. (get_or configs n d).rev ≤ rev in
          let e : at ≡ k = omega (arith, g, less) in
          let same = same_rev d in
          subst P e (omega (arith, same, le))

  pub from_it_on : rev < x.rev → (k : ℕ) (d : ReadConfig) → at ≤ k → k < length configs → rev < (get_or configs k d).rev
  from_it_on lt k d least less = by_place (cases_lt at k)
    where
      by_place : (at < k) ⊎ (k ≤ at) → rev < (get_or configs k d).rev
      by_place (inl l) = let far = rise at k d l less in let same = same_rev d in omega (arith, far, same, lt)
      by_place (inr g) =
          let P : ℕ → Type 0 = λ n. rev < (get_or configs n d).rev in
          let e : at ≡ k = omega (arith, g, least) in
          let same = same_rev d in
          subst P e (omega (arith, same, lt))

-- ---- the last up to a revision

abbrev Later : ℕ → List ReadConfig → Type 0
Later rev xs = All (λ x. rev < x.rev) xs

pub last_none : (rev : ℕ) (xs : List ReadConfig) → Later rev xs → last_up_to rev (map as_config xs) ≡ record { rev = 0; config = empty_config }
last_none rev [] later = refl
last_none rev (x ∷ xs) later =
    ap (λ b. cond (b && nat_lt (last_up_to rev (map as_config xs)).rev x.rev) (as_config x) (last_up_to rev (map as_config xs))) (le_false x.rev rev (All-head (λ y. rev < y.rev) x xs later))
    ∙ last_none rev xs (All-tail (λ y. rev < y.rev) x xs later)

pub last_is : (rev : ℕ) (xs : List ReadConfig) (n : ℕ) (d : ReadConfig) → Rises xs → n < length xs → 0 < (get_or xs n d).rev → (get_or xs n d).rev ≤ rev
    → ((k : ℕ) (e : ReadConfig) → n < k → k < length xs → rev < (get_or xs k e).rev) → last_up_to rev (map as_config xs) ≡ as_config (get_or xs n d)
last_is rev [] n d rise within some le after = absurd (omega (arith, within))
last_is rev (x ∷ xs) zero d rise within some le after =
    let none = last_none rev xs (λ k e less. after (suc k) e (omega arith) (omega (arith, less))) in
    let P : ConfigAt → Type 0 = λ c. c.rev < x.rev in
    last_first rev (as_config x) (last_up_to rev (map as_config xs)) le (subst P (sym none) some)
last_is rev (x ∷ xs) (suc n) d rise within some le after =
    let rest = last_is rev xs n d (tail_rises x xs rise) (omega (arith, within)) some le (λ k e a b. after (suc k) e (omega (arith, a)) (omega (arith, b))) in
    let P : ConfigAt → Type 0 = λ c. x.rev ≤ c.rev in
    let below : x.rev < (get_or xs n d).rev = rise 0 (suc n) d (omega arith) within in
    let not_first = lt_false (last_up_to rev (map as_config xs)).rev x.rev (subst P (sym rest) (omega (arith, below))) in
    ap (λ b. cond b (as_config x) (last_up_to rev (map as_config xs))) (right_false (nat_le x.rev rev) (nat_lt (last_up_to rev (map as_config xs)).rev x.rev) not_first) ∙ rest

-- ---- the one of a revision

pub at_none : (rev : ℕ) (xs : List ReadConfig) → All (λ x. x.rev ≡ rev → ⊥) xs → config_at rev (map as_config xs) ≡ None
at_none rev [] others = refl
at_none rev (x ∷ xs) others =
    ap (λ b. cond b (Some x.config) (config_at rev (map as_config xs))) (ne_eqb x.rev rev (All-head (λ y. y.rev ≡ rev → ⊥) x xs others))
    ∙ at_none rev xs (All-tail (λ y. y.rev ≡ rev → ⊥) x xs others)

pub at_is : (rev : ℕ) (xs : List ReadConfig) (n : ℕ) (d : ReadConfig) → Rises xs → n < length xs → (get_or xs n d).rev ≡ rev → config_at rev (map as_config xs) ≡ Some (get_or xs n d).config
at_is rev [] n d rise within is = absurd (omega (arith, within))
at_is rev (x ∷ xs) zero d rise within is = ap (λ b. cond b (Some x.config) (config_at rev (map as_config xs))) (eq-eqb x.rev rev is)
at_is rev (x ∷ xs) (suc n) d rise within is =
    let below : x.rev < (get_or xs n d).rev = rise 0 (suc n) d (omega arith) within in
    ap (λ b. cond b (Some x.config) (config_at rev (map as_config xs))) (ne_eqb x.rev rev (λ e. omega (arith, e, below, is)))
    ∙ at_is rev xs n d (tail_rises x xs rise) (omega (arith, within)) is

-- where the last up to the revision is of another one
pub at_other : (rev at : ℕ) (xs : List ReadConfig) (x : ReadConfig) → Rises xs → 0 < at → ArePartedAt rev xs at → x ≡ get_or xs (at - 1) x → (x.rev ≡ rev → ⊥) → config_at rev (map as_config xs) ≡ None
at_other rev at xs x rise some parted is other = at_none rev xs (λ k d less e. by_place k d less e (cases_lt k at))
  where
    last : (at - 1) < length xs
    last = let w = parted.within in omega (arith, some, w)

    same : (d : ReadConfig) → (get_or xs (at - 1) d).rev ≡ x.rev
    same d = ap (λ (y : ReadConfig). y.rev) (sym (is ∙ get_or_default xs (at - 1) x d last))

    by_place : (k : ℕ) (d : ReadConfig) → k < length xs → (get_or xs k d).rev ≡ rev → (k < at) ⊎ (at ≤ k) → ⊥
    by_place k d less e (inr g) = let l = parted.after k d g less in omega (arith, l, e)
    by_place k d less e (inl l) = by_last (cases_lt k (at - 1))
      where
        by_last : (k < at - 1) ⊎ (at - 1 ≤ k) → ⊥
        by_last (inl b) = let far = rise k (at - 1) d b last in let up = parted.before (at - 1) d (omega (arith, some)) in omega (arith, far, up, e)
        by_last (inr g) =
            let P : ℕ → Type 0 = λ n. (get_or xs n d).rev ≡ rev in
            let n : k ≡ at - 1 = omega (arith, g, l) in
            other (sym (same d) ∙ subst P n e)
