-- What is so of each two of a list is so in any order.
use Rattle.std.proofs.Common.{◌≡◌, ℕ, ◌+◌, ◌≤◌, List, [], ◌∷◌, refl, sym, ap, subst, ◌∙◌, inl, inr, arith}
use Rattle.std.specs.Prelude.{Bool, true, false, cond, map, All, IsPermutation}
use Rattle.std.specs.List.{sum_by}
use Rattle.std.proofs.lemmas.List.Elements.{All-nil, All-cons, All-head, All-tail, All-map}
use Rattle.std.proofs.lemmas.List.Sorted.{sum_by-IsPermutation, IsPermutation-sym}
use Rattle.std.proofs.lemmas.List.Sums.{sum_by-cons}
use Rattle.store.specs.Written.{Pairwise}
use Rattle.store.proofs.Picking.{In, all_in, all_from}
use Rattle.store.proofs.Once.{in_permuted, in_map}

-- by a test that has no order, and is false of each and itself
module _ {A : Type 0} (test : A → A → Bool) (both : (x y : A) → test x y ≡ test y x) where
  clash : A → A → ℕ
  clash x y = cond (test x y) 0 1

  clashes : A → List A → ℕ
  clashes x xs = sum_by (clash x) xs

  clashes_next : (x y : A) (ys : List A) → clashes x (y ∷ ys) ≡ clash x y + clashes x ys
  unfolding clashes
  clashes_next x y ys = sum_by-cons (clash x) y ys

  clash_no : (x y : A) → test x y ≡ true → clash x y ≡ 0
  unfolding clash
  clash_no x y h = ap (λ b. cond b 0 1) h

  clash_one : (x y : A) → test x y ≡ false → clash x y ≡ 1
  unfolding clash
  clash_one x y h = ap (λ b. cond b 0 1) h

  clash_only : (x y : A) → clash x y ≡ 0 → test x y ≡ true
  unfolding clash
  clash_only x y h = by_test (test x y) refl h
    where
      by_test : (b : Bool) → test x y ≡ b → ◌≡◌ {A = ℕ} (cond b 0 1) 0 → test x y ≡ true
      by_test true e z = e
      by_test false e z = absurd (omega (arith, z))

  none_clash : (x : A) (ys : List A) → All (λ y. test x y ≡ true) ys → clashes x ys ≡ 0
  unfolding clashes
  none_clash x [] h = refl
  none_clash x (y ∷ ys) h =
      let a = clashes_next x y ys in let b = clash_no x y (All-head (λ y. test x y ≡ true) y ys h) in let c = none_clash x ys (All-tail (λ y. test x y ≡ true) y ys h) in
      omega (arith, a, b, c)

  all_tested : (x : A) (ys : List A) → clashes x ys ≡ 0 → All (λ y. test x y ≡ true) ys
  all_tested x [] h = All-nil (λ y. test x y ≡ true)
  all_tested x (y ∷ ys) h =
      let a = clashes_next x y ys in
      All-cons (λ y. test x y ≡ true) y ys (clash_only x y (omega (arith, a, h))) (all_tested x ys (omega (arith, a, h)))

  itself_clashes : (x : A) (ys : List A) → In x ys → test x x ≡ false → 1 ≤ clashes x ys
  itself_clashes x [] i h = absurd i
  itself_clashes x (y ∷ ys) (inl e) h = let a = clashes_next x y ys in let b = clash_one x y (ap (test x) (sym e) ∙ h) in omega (arith, a, b)
  itself_clashes x (y ∷ ys) (inr i) h = let a = clashes_next x y ys in let b = itself_clashes x ys i h in omega (arith, a, b)

  one_clash : (xs : List A) → ((x : A) → In x xs → test x x ≡ false) → Pairwise test xs → (x : A) → In x xs → clashes x xs ≡ 1
  one_clash [] itself apart x i = absurd i
  one_clash (y ∷ ys) itself apart x (inl e) =
      let a = clashes_next y y ys in let b = clash_one y y (itself y (inl refl)) in let c = none_clash y ys apart.0 in
      subst (λ z. clashes z (y ∷ ys) ≡ 1) (sym e) (omega (arith, a, b, c))
  one_clash (y ∷ ys) itself apart x (inr i) =
      let a = clashes_next x y ys in let b = clash_no x y (both x y ∙ all_in (λ z. test y z ≡ true) ys apart.0 x i) in let c = one_clash ys (λ z j. itself z (inr j)) apart.1 x i in
      omega (arith, a, b, c)

  tested : (ys : List A) → ((x : A) → In x ys → test x x ≡ false) → ((x : A) → In x ys → clashes x ys ≡ 1) → Pairwise test ys
  tested [] itself one = tt
  tested (y ∷ ys) itself one = (
    all_tested y ys (let a = clashes_next y y ys in let b = clash_one y y (itself y (inl refl)) in let c = one y (inl refl) in omega (arith, a, b, c)),
    tested ys (λ x i. itself x (inr i)) (λ x i. let a = clashes_next x y ys in let b = itself_clashes x ys i (itself x (inr i)) in let c = one x (inr i) in omega (arith, a, b, c)),
  )

  pub pairwise_permuted : (xs ys : List A) → ((x : A) → In x xs → test x x ≡ false) → IsPermutation xs ys → Pairwise test xs → Pairwise test ys
  unfolding clashes
  pairwise_permuted xs ys itself perm apart =
      let back : (x : A) → In x ys → In x xs = λ x i. in_permuted ys xs x (IsPermutation-sym xs ys perm) i in
      tested ys (λ x i. itself x (back x i)) (λ x i. sum_by-IsPermutation (clash x) xs ys perm ∙ one_clash xs itself apart x (back x i))

-- a test of what is seen of the elements
pub pairwise_seen : {A B : Type 0} (f : A → B) (test : A → A → Bool) (seen : B → B → Bool) (xs : List A) → ((x y : A) → In x xs → In y xs → test x y ≡ seen (f x) (f y)) → Pairwise test xs → Pairwise seen (map f xs)
pairwise_seen f test seen [] same h = tt
pairwise_seen f test seen (x ∷ xs) same h = (
  All-map (λ y. seen (f x) y ≡ true) f xs (all_from (λ y. seen (f x) (f y) ≡ true) xs (λ y i. sym (same x y (inl refl) (inr i)) ∙ all_in (λ y. test x y ≡ true) xs h.0 y i)),
  pairwise_seen f test seen xs (λ y z i j. same y z (inr i) (inr j)) h.1,
)

pub pairwise_unseen : {A B : Type 0} (f : A → B) (test : A → A → Bool) (seen : B → B → Bool) (xs : List A) → ((x y : A) → In x xs → In y xs → test x y ≡ seen (f x) (f y)) → Pairwise seen (map f xs) → Pairwise test xs
pairwise_unseen f test seen [] same h = tt
pairwise_unseen f test seen (x ∷ xs) same h = (
  all_from (λ y. test x y ≡ true) xs (λ y i. same x y (inl refl) (inr i) ∙ all_in (λ y. seen (f x) y ≡ true) (map f xs) h.0 (f y) (in_map f xs y i)),
  pairwise_unseen f test seen xs (λ y z i j. same y z (inr i) (inr j)) h.1,
)
